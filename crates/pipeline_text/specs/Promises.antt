-- Laws of pipeline texts.
use Rattle.std.specs.Prelude.{◌≡◌, ℕ, ◌+◌, Bool, true, false, ◌&&◌, List, [], ◌∷◌, ◌++◌, length, ⊤, not}
use Rattle.std.specs.List.{list_all}
use Rattle.pipeline_text.specs.declared.refusal.PipelineKind.{PipelineKind}
use Rattle.pipeline_text.specs.declared.token.Token.{Token}
use Rattle.pipeline_text.specs.declared.pass.Stage.{Stage}
use Rattle.pipeline_text.specs.declared.token.Wanted.TheVariants.{NoOption}
use Rattle.pipeline_text.specs.Kinds.{fits}
use Rattle.pipeline_text.specs.Words.{cut, in_word, tokens_of, word_kind}
use Rattle.pipeline_text.specs.Reading.{ReadsAs, IsRefused}
use Rattle.pipeline_text.specs.Printing.{printed}

-- the printed text of what a text reads as reads as the same
abbrev pub PrintedReadsAgain : Type 0
PrintedReadsAgain = (text : List ℕ) (stages : List Stage) → ReadsAs text stages → ReadsAs (printed stages) stages

-- a text reads as one list of stages, or is refused at one place as one kind
pub record HasOneAnswer (text : List ℕ) : Type 0 where
  pub one_reading : (a b : List Stage) → ReadsAs text a → ReadsAs text b → a ≡ b
  pub not_both : (a : List Stage) (place : ℕ) (kind : PipelineKind) → ReadsAs text a → IsRefused text place kind → ⊥
  pub one_place : (p q : ℕ) (k j : PipelineKind) → IsRefused text p k → IsRefused text q j → p ≡ q
  pub one_kind : (p q : ℕ) (k j : PipelineKind) → IsRefused text p k → IsRefused text q j → k ≡ j

abbrev pub OneAnswer : Type 0
OneAnswer = (text : List ℕ) → HasOneAnswer text

abbrev pub all_in_word : List ℕ → Bool
all_in_word [] = true
all_in_word (b ∷ bs) = in_word b && all_in_word bs

-- the bytes begin with none of a word
abbrev pub Ends : List ℕ → Type 0
Ends [] = ⊤
Ends (b ∷ bs) = in_word b ≡ false

-- a longest run of bytes of words is one token, at the place of its first byte
abbrev pub RunsAreWords : Type 0
RunsAreWords = (at b : ℕ) (bytes rest : List ℕ) → all_in_word (b ∷ bytes) ≡ true → Ends rest
    → cut [] at ((b ∷ bytes) ++ rest) ≡ record { kind = word_kind (b ∷ bytes); start = at } ∷ cut [] (at + length (b ∷ bytes)) rest

-- no token of a text is the name that is wanted where a pass has no option
abbrev pub NoOptionInTexts : Type 0
NoOptionInTexts = (text : List ℕ) → list_all (λ (t : Token). not (fits NoOption t.kind)) (tokens_of text) ≡ true
