-- The words of a text, one by one.
use Rattle.std.proofs.Common.{◌≡◌, ℕ, ◌+◌, ◌-◌, ◌<◌, ◌≤◌, List, [], ◌∷◌, ◌++◌, length, drop, Option, Some, None, Result, sym, subst, arith, append_assoc}
use Rattle.std.proofs.lemmas.List.{append-nil, drop-drop}
use Rattle.std.specs.Prelude.{All}
use Rattle.mlir_lex.specs.declared.Token.{Token}
use Rattle.mlir_lex.specs.declared.LexFault.{LexFault}
use Rattle.mlir_lex.specs.Text.{Lexes, LexesFrom, Outcome, first_of, next_of, FailsAt, IsGap}
use Rattle.mlir_lex.proofs.Spans.{lexes-within, lexes-fault}
use Rattle.text_grammar.specs.declared.words.Word.{Word}
use Rattle.text_grammar.specs.declared.cuts.Mode.{Mode}
use Rattle.text_grammar.specs.declared.cuts.Mode.TheVariants.{Plain}
use Rattle.text_grammar.specs.Words.{mode_behind, HasWord, WordsFrom, AreWords, IsFirst, IsSoFar}

-- what a lexer gives first
first_is : (text : List ℕ) (tokens : List Token) (fault : Option LexFault) → Lexes text tokens fault → IsFirst text (first_of tokens fault)
unfolding Lexes LexesFrom
first_is text [] None h = h
first_is text [] (Some fault) h = let first = lexes-fault text [] fault h in (h, first.2)
first_is text (t ∷ ts) fault h =
    let all : All (λ (t : Token). (t.start < t.end) × (t.end ≤ length text)) (t ∷ ts) = lexes-within text (t ∷ ts) fault h in
    let at_head : (t.start < t.end) × (t.end ≤ length text) = all 0 t (omega arith) in
    (h.0, h.1, at_head.0, at_head.1)

pub first_given : (text : List ℕ) (o : Outcome) (r : Result (Option Token) LexFault) → Lexes text o.tokens o.fault → r ≡ next_of o → IsFirst text r
first_given text o r h e = rw e (first_is text o.tokens o.fault h)

pub no_words : (text : List ℕ) → IsSoFar text [] Plain 0
unfolding AreWords
no_words text = λ more fault h. h

-- one more
pub next_word : (text rest : List ℕ) (words pushed : List Word) (mode : Mode) (at : ℕ) (word : Word) → IsSoFar text words mode at → rest ≡ drop at text → HasWord mode at rest word
    → at ≤ word.end → pushed ≡ words ++ word ∷ [] → IsSoFar text pushed (mode_behind mode word.kind) word.end
unfolding WordsFrom
next_word text rest words pushed mode at word so_far is has past put = λ more fault h.
    let place : at + (word.end - at) ≡ word.end = omega arith in
    let d : drop (word.end - at) (drop at text) ≡ drop (at + (word.end - at)) text = drop-drop (word.end - at) at text in
    let e : drop (word.end - at) (drop at text) ≡ drop word.end text = rw place at d in
    let R : List ℕ → Type 0 = λ left. WordsFrom (mode_behind mode word.kind) word.end left more fault in
    let H : List ℕ → Type 0 = λ left. HasWord mode at left word in
    rw (put, append_assoc) (so_far (word ∷ more) fault (subst H is has, subst R (sym e) h))

pub all_words : (text rest : List ℕ) (words : List Word) (mode : Mode) (at : ℕ) → IsSoFar text words mode at → rest ≡ drop at text → IsGap rest [] → AreWords text words None
unfolding WordsFrom
all_words text rest words mode at so_far is gap = rw (← append-nil words) (so_far [] None (rw is at gap))

pub words_to : (text rest : List ℕ) (words : List Word) (mode : Mode) (at : ℕ) (fault here : LexFault) → IsSoFar text words mode at → rest ≡ drop at text → FailsAt 0 rest here
    → fault ≡ record { place = at + here.place; kind = here.kind } → AreWords text words (Some fault)
unfolding WordsFrom
words_to text rest words mode at fault here so_far is fails e =
    rw (← append-nil words) (so_far [] (Some fault) (record { here = here; fails = rw is at fails; is = e }))
