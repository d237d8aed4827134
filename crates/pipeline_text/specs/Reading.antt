-- What a text reads as, and where and why it reads as nothing.
use Rattle.std.specs.Prelude.{◌≡◌, ℕ, Bool, true, false, List, [], ◌∷◌, length, Option, Some, None, Result, Ok, Err, ⊤, if◌then◌else◌}
use Rattle.grammar_model.specs.Expected.{IsExpected}
use Rattle.pipeline_text.specs.declared.pass.Pipeline.{Pipeline}
use Rattle.pipeline_text.specs.declared.refusal.PipelineKind.{PipelineKind}
use Rattle.pipeline_text.specs.declared.refusal.PipelineKind.TheVariants.{Expected, UnknownPass, WrongAnchor, UnknownOption, BadValue}
use Rattle.pipeline_text.specs.declared.refusal.PipelineRefusal.{PipelineRefusal}
use Rattle.pipeline_text.specs.declared.refusal.PipelineRefusal.TheVariants.{At, NoMemory}
use Rattle.pipeline_text.specs.declared.token.Token.{Token}
use Rattle.pipeline_text.specs.declared.token.Kind.{Kind}
use Rattle.pipeline_text.specs.declared.token.Kind.TheVariants.{Module, OnEach, Pass, Width, Zero, SixtyFour, OtherWord, Open, OpenBrace, Equals, Comma}
use Rattle.pipeline_text.specs.declared.pass.Stage.{Stage}
use Rattle.pipeline_text.specs.Grammar.{pipeline}
use Rattle.pipeline_text.specs.Words.{tokens_of}

-- the text is a way to write these stages
abbrev pub ReadsAs : List ℕ → List Stage → Type 0
ReadsAs text stages = pipeline.Written stages (tokens_of text)

abbrev pub first_kind : List Token → Option Kind
first_kind [] = None
first_kind (t ∷ ts) = Some t.kind

abbrev pub last_kind : List Token → Option Kind
last_kind [] = None
last_kind (t ∷ []) = Some t.kind
last_kind (t ∷ u ∷ ts) = last_kind (u ∷ ts)

-- the first byte of the next token, or the end of the text
abbrev pub place_of : List ℕ → List Token → ℕ
place_of text [] = length text
place_of text (t ∷ ts) = t.start

abbrev pub is_word : Kind → Bool
is_word Module = true
is_word (OnEach a) = true
is_word (Pass p) = true
is_word Width = true
is_word Zero = true
is_word SixtyFour = true
is_word OtherWord = true
is_word k = false

-- in a pass's place: a pass that may not stand there, or a word that is none
abbrev pub not_pass : Kind → PipelineKind
not_pass (Pass p) = WrongAnchor
not_pass k = UnknownPass

-- behind an option: the option once more, or a word that is none
abbrev pub not_option : Kind → PipelineKind
not_option Width = BadValue
not_option k = UnknownOption

-- what is wrong with a word, by the token before it
abbrev pub word_wrong : Kind → Kind → PipelineKind
word_wrong Open k = not_pass k
word_wrong Comma k = not_pass k
word_wrong OpenBrace k = UnknownOption
word_wrong Zero k = not_option k
word_wrong SixtyFour k = not_option k
word_wrong Equals k = BadValue
word_wrong before k = Expected

-- what is wrong with the first token that does not fit: only a word is wrong in another way than by standing there
abbrev pub wrong : Option Kind → Option Kind → PipelineKind
wrong before None = Expected
wrong None (Some k) = Expected
wrong (Some before) (Some k) = if is_word k then word_wrong before k else Expected

-- the text is refused at this place, as this kind: there is the first token that does not fit
pub record IsRefused (text : List ℕ) (place : ℕ) (kind : PipelineKind) : Type 0 where
  pub rest : List Token
  pub expected : IsExpected pipeline (tokens_of text) rest
  pub at : place ≡ place_of text rest
  pub because : kind ≡ wrong (last_kind expected.front) (first_kind rest)

-- a refusal says where and why; want of memory says nothing
abbrev pub RefusesRightly : List ℕ → Result Pipeline PipelineRefusal → Type 0
RefusesRightly text (Ok p) = ⊤
RefusesRightly text (Err (At place kind)) = IsRefused text place kind
RefusesRightly text (Err NoMemory) = ⊤

-- the stages are answered, but for want of memory
abbrev pub AnswersWith : Result Pipeline PipelineRefusal → List Stage → Type 0
AnswersWith (Ok p) stages = p.stages ≡ stages
AnswersWith (Err (At place kind)) stages = ⊥
AnswersWith (Err NoMemory) stages = ⊤
