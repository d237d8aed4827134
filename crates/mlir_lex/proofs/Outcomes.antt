-- What stands first in a text, and what follows it.
use Rattle.std.proofs.Common.{◌≡◌, subst, ℕ, ◌+◌, ◌-◌, ◌<◌, suc, zero, List, [], ◌∷◌, drop, Option, Some, None, Result, Ok, Err, refl, sym, ap, ◌∙◌, arith}
use Rattle.mlir_lex.specs.declared.Token.{Token}
use Rattle.mlir_lex.specs.declared.TokenKind.{TokenKind}
use Rattle.mlir_lex.specs.declared.LexFault.{LexFault}
use Rattle.mlir_lex.specs.Scan.{outcome, outcome_from, gap_len, gap_piece, comment_len, next_is, begins, pieces, pieces_from, read_clear, read_first, read_kind, read_token, token_len, kind_at, kind_of, length_of, length_of_some, outcome_after}
use Rattle.mlir_lex.specs.Text.{Outcome, next_of, rest_of}
use Rattle.std.proofs.lemmas.List.{drop-drop}
use Rattle.mlir_lex.proofs.Runs.{pieces-end}

-- the bytes of a piece are passed
pub outcome-pass : (at k : ℕ) (text : List ℕ) → outcome at k text ≡ outcome (at + k) 0 (drop k text)
unfolding outcome
outcome-pass at zero [] = refl
outcome-pass at (suc k) [] = refl
outcome-pass at zero (b ∷ bs) = ap (λ n. outcome n 0 (b ∷ bs)) (omega arith)
outcome-pass at (suc k) (b ∷ bs) = outcome-pass (suc at) k bs ∙ ap (λ n. outcome n 0 (drop k bs)) (omega arith)

-- what stands before the first token gives none
pub outcome-gaps : (at k : ℕ) (text : List ℕ) → outcome at k text ≡ outcome (at + pieces gap_piece k text) 0 (drop (pieces gap_piece k text) text)
unfolding outcome pieces
outcome-gaps at zero [] = refl
outcome-gaps at (suc k) [] = refl
outcome-gaps at (suc k) (b ∷ bs) = outcome-gaps (suc at) k bs ∙ ap (λ n. outcome n 0 (drop (pieces gap_piece k bs) bs)) (omega arith)
outcome-gaps at zero (b ∷ bs) = by_first (gap_piece (b ∷ bs)) refl (λ k. outcome-gaps (suc at) k bs)
  where
    by_first : (n : ℕ) → gap_piece (b ∷ bs) ≡ n → ((k : ℕ) → outcome (suc at) k bs ≡ outcome (suc at + pieces gap_piece k bs) 0 (drop (pieces gap_piece k bs) bs)) → outcome_from n (read_clear at (b ∷ bs)) (token_len (b ∷ bs)) (λ k. outcome (suc at) k bs) ≡ outcome (at + pieces_from n (λ j. pieces gap_piece j bs)) 0 (drop (pieces_from n (λ j. pieces gap_piece j bs)) (b ∷ bs))
    by_first zero h more = sym (ap (λ n. outcome n 0 (b ∷ bs)) (let e : at + 0 ≡ at = omega arith in e) ∙ ap (λ n. outcome_from n (read_clear at (b ∷ bs)) (token_len (b ∷ bs)) (λ k. outcome (suc at) k bs)) h)
    by_first (suc n) h more = more n ∙ ap (λ m. outcome m 0 (drop (pieces gap_piece n bs) bs)) (omega arith)

-- what follows from the answer of a read
abbrev pub Follows : ℕ → List ℕ → Result (Option Token) LexFault → Outcome → Type 0
Follows at text (Ok None) o = o ≡ record { tokens = []; fault = None }
Follows at text (Ok (Some t)) o = (at < t.end) × (o ≡ record { tokens = t ∷ (outcome t.end 0 (drop (t.end - at) text)).tokens; fault = (outcome t.end 0 (drop (t.end - at) text)).fault })
Follows at text (Err e) o = o ≡ record { tokens = []; fault = Some e }

-- of a token of this length
token-follows : (at : ℕ) (b : ℕ) (bs : List ℕ) (kind : TokenKind) (n : ℕ) → Follows at (b ∷ bs) (read_token at (b ∷ bs) kind n) (outcome_from 0 (read_token at (b ∷ bs) kind n) n (λ k. outcome (suc at) k bs))
token-follows at b bs kind zero = refl
token-follows at b bs kind (suc n) = (omega arith, passed (at + suc n - at) (omega arith))
  where
    passed : (m : ℕ) → m ≡ suc n → ◌≡◌ {A = Outcome} (record { tokens = record { kind = kind; start = at; end = at + suc n } ∷ (outcome (suc at) n bs).tokens; fault = (outcome (suc at) n bs).fault }) (record { tokens = record { kind = kind; start = at; end = at + suc n } ∷ (outcome (at + suc n) 0 (drop m (b ∷ bs))).tokens; fault = (outcome (at + suc n) 0 (drop m (b ∷ bs))).fault })
    passed m e = rw e (ap (λ (o : Outcome). record { tokens = record { kind = kind; start = at; end = at + suc n } ∷ o.tokens; fault = o.fault }) (outcome-pass (suc at) n bs ∙ ap (λ p. outcome p 0 (drop n bs)) (omega arith)))

kind-follows : (at : ℕ) (b : ℕ) (bs : List ℕ) (kind : Option TokenKind) → Follows at (b ∷ bs) (read_kind at (b ∷ bs) kind) (outcome_from 0 (read_kind at (b ∷ bs) kind) (length_of_some kind (b ∷ bs)) (λ k. outcome (suc at) k bs))
kind-follows at b bs None = refl
kind-follows at b bs (Some kind) = token-follows at b bs kind (length_of kind (b ∷ bs))

pub clear-follows : (at : ℕ) (text : List ℕ) → gap_piece text ≡ 0 → Follows at text (read_clear at text) (outcome at 0 text)
unfolding outcome read_clear token_len kind_at
clear-follows at [] h = refl
clear-follows at (b ∷ bs) h = rw h (kind-follows at b bs (kind_of b))

gap_piece-nil : gap_piece [] ≡ 0
unfolding gap_piece next_is comment_len begins
gap_piece-nil = refl

pub gap_len-end : (text : List ℕ) → gap_piece (drop (gap_len text) text) ≡ 0
unfolding gap_len
gap_len-end text = pieces-end gap_piece gap_piece-nil 0 text

-- what `next` owes at this answer
abbrev pub Gives : List ℕ → Result (Option Token) LexFault → Outcome → Type 0
Gives whole (Ok None) o = (Ok None ≡ next_of o) × (o ≡ rest_of o)
Gives whole (Ok (Some t)) o = (Ok (Some t) ≡ next_of o) × (outcome t.end 0 (drop t.end whole) ≡ rest_of o)
Gives whole (Err e) o = (Err e ≡ next_of o) × (record { tokens = []; fault = Some e } ≡ rest_of o)

gives-follows : (whole : List ℕ) (at : ℕ) (r : Result (Option Token) LexFault) (o : Outcome) → Follows at (drop at whole) r o → Gives whole r o
gives-follows whole at (Ok None) o h = rw h (refl, refl)
gives-follows whole at (Ok (Some t)) o h =
    let there : drop (t.end - at) (drop at whole) ≡ drop t.end whole = drop-drop (t.end - at) at whole ∙ ap (λ n. drop n whole) (omega (arith, h.0)) in
    let e = h.1 in
    rw e (refl, rw there refl)
gives-follows whole at (Err e) o h = rw h (refl, refl)

-- a read at a place gives what the lexer owes there
pub read-gives : (whole : List ℕ) (at : ℕ) (fault : Option LexFault) (o : Outcome) (r : Result (Option Token) LexFault) → fault ≡ None → outcome_after fault at (drop at whole) ≡ o → r ≡ read_first at (drop at whole) → Gives whole r o
unfolding read_first gap_len
read-gives whole at fault o r none view read =
    let v = rw none at view in
    let text = drop at whole in
    let moved : drop (gap_len text) text ≡ drop (at + gap_len text) whole = drop-drop (gap_len text) at whole in
    let follows = clear-follows (at + gap_len text) (drop (gap_len text) text) (gap_len-end text) in
    rw read (rw (sym v) (rw (outcome-gaps at 0 text) (gives-follows whole (at + gap_len text) (read_first at text) (outcome (at + gap_len text) 0 (drop (gap_len text) text)) (let P : List ℕ → Type 0 = λ x. Follows (at + gap_len text) x (read_first at text) (outcome (at + gap_len text) 0 (drop (gap_len text) text)) in subst P moved follows))))
