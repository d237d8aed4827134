-- A text is cut into words in one way.
use Rattle.std.proofs.Common.{◌≡◌, ℕ, ◌+◌, ◌-◌, List, [], ◌∷◌, length, drop, Option, Some, None, refl, sym, ◌∙◌, ap, subst, arith}
use Rattle.mlir_lex.specs.declared.Token.{Token}
use Rattle.mlir_lex.specs.declared.LexFault.{LexFault}
use Rattle.mlir_lex.specs.Text.{Lexes, LexesFrom, BeginsWith, FailsAt, IsGap}
use Rattle.mlir_lex.specs.Scan.{outcome}
use Rattle.mlir_lex.proofs.Once.{lexes_once, outcome-cuts}
use Rattle.text_grammar.specs.declared.words.Word.{Word}
use Rattle.text_grammar.specs.declared.cuts.Mode.{Mode}
use Rattle.text_grammar.specs.Words.{mode_behind, word_of, piece_of, HasWord, HasFault, WordsFrom, AreWords}

-- what the lexer gives where a token, a fault or the end stands first
record Cut (text : List ℕ) (t : Token) : Type 0 where
  more : List Token
  fault : Option LexFault
  is : Lexes text (t ∷ more) fault

cut_at : (text rest : List ℕ) (t : Token) → BeginsWith 0 text t rest → Cut text t
unfolding Lexes LexesFrom
cut_at text rest t begins = record {
  more = (outcome t.end 0 rest).tokens;
  fault = (outcome t.end 0 rest).fault;
  is = (rest, begins, outcome-cuts (length rest) t.end rest (omega arith));
}

fault_at : (text : List ℕ) (fault : LexFault) → FailsAt 0 text fault → Lexes text [] (Some fault)
unfolding Lexes LexesFrom
fault_at text fault fails = fails

end_at : (text : List ℕ) → IsGap text [] → Lexes text [] None
unfolding Lexes LexesFrom
end_at text gap = gap

same_first : (text : List ℕ) (t u : Token) → Cut text t → Cut text u → t ≡ u
same_first text t u a b =
    let both = lexes_once text (t ∷ a.more) (u ∷ b.more) a.fault b.fault a.is b.is in
    let heads : t ∷ a.more ≡ u ∷ b.more = both.0 in cc

no_token : (text : List ℕ) (t : Token) (fault : Option LexFault) → Cut text t → Lexes text [] fault → ⊥
no_token text t fault a b =
    let both = lexes_once text (t ∷ a.more) [] a.fault fault a.is b in
    let heads : t ∷ a.more ≡ [] = both.0 in cc

same_word : (mode : Mode) (at : ℕ) (text : List ℕ) (w v : Word) → HasWord mode at text w → HasWord mode at text v → w ≡ v
same_word mode at text w v a b =
    let same : a.token ≡ b.token = same_first text a.token b.token (cut_at text a.behind a.token a.begins) (cut_at text b.behind b.token b.begins) in
    a.is ∙ ap (λ t. word_of mode t.kind (piece_of text t) (at + t.start)) same ∙ sym b.is

same_fault : (at : ℕ) (text : List ℕ) (f g : LexFault) → HasFault at text f → HasFault at text g → f ≡ g
same_fault at text f g a b =
    let both = lexes_once text [] [] (Some a.here) (Some b.here) (fault_at text a.here a.fails) (fault_at text b.here b.fails) in
    let same : Some a.here ≡ Some b.here = both.1 in
    let here : a.here ≡ b.here = cc in
    a.is ∙ ap (λ (h : LexFault). record { place = at + h.place; kind = h.kind }) here ∙ sym b.is

no_fault : (at : ℕ) (text : List ℕ) (f : LexFault) → HasFault at text f → IsGap text [] → ⊥
no_fault at text f a gap =
    let both = lexes_once text [] [] (Some a.here) None (fault_at text a.here a.fails) (end_at text gap) in
    let same : ◌≡◌ {A = Option LexFault} (Some a.here) None = both.1 in cc

no_end : (mode : Mode) (at : ℕ) (text : List ℕ) (w : Word) (f : Option LexFault) → HasWord mode at text w → WordsFrom mode at text [] f → ⊥
unfolding WordsFrom
no_end mode at text w None a gap = no_token text a.token None (cut_at text a.behind a.token a.begins) (end_at text gap)
no_end mode at text w (Some f) a b = no_token text a.token (Some b.here) (cut_at text a.behind a.token a.begins) (fault_at text b.here b.fails)

words_once : (ws vs : List Word) (mode : Mode) (at : ℕ) (text : List ℕ) (f g : Option LexFault) → WordsFrom mode at text ws f → WordsFrom mode at text vs g → (ws ≡ vs) × (f ≡ g)
unfolding WordsFrom
words_once [] [] mode at text None None a b = (refl, refl)
words_once [] [] mode at text None (Some g) a b = absurd (no_fault at text g b a)
words_once [] [] mode at text (Some f) None a b = absurd (no_fault at text f a b)
words_once [] [] mode at text (Some f) (Some g) a b = (refl, ap Some (same_fault at text f g a b))
words_once [] (v ∷ vs) mode at text f g a b = absurd (no_end mode at text v f b.0 a)
words_once (w ∷ ws) [] mode at text f g a b = absurd (no_end mode at text w g a.0 b)
words_once (w ∷ ws) (v ∷ vs) mode at text f g a b =
    let same : v ≡ w = same_word mode at text v w b.0 a.0 in
    let R : Word → Type 0 = λ x. WordsFrom (mode_behind mode x.kind) x.end (drop (x.end - at) text) vs g in
    let more = words_once ws vs (mode_behind mode w.kind) w.end (drop (w.end - at) text) f g a.1 (subst R same b.1) in
    (rw (same, more.0) refl, more.1)

pub cut_once : (text : List ℕ) (ws vs : List Word) (f g : Option LexFault) → AreWords text ws f → AreWords text vs g → (ws ≡ vs) × (f ≡ g)
unfolding AreWords
cut_once text ws vs f g a b = words_once ws vs _ 0 text f g a b
