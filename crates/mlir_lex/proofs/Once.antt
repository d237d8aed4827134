-- A text is cut in one way: what is computed is a cut, and every cut is what is computed.
use Rattle.std.proofs.Common.{◌≡◌, ℕ, ◌+◌, ◌-◌, ◌<◌, ◌≤◌, suc, zero, List, [], ◌∷◌, ◌++◌, length, drop, Option, Some, None, Result, Ok, Err, refl, sym, ap, ◌∙◌, subst, arith, length-append}
use Rattle.std.proofs.lemmas.List.{drop_at, append-nil}
use Rattle.mlir_lex.specs.declared.Token.{Token}
use Rattle.mlir_lex.specs.declared.TokenKind.{TokenKind}
use Rattle.mlir_lex.specs.declared.LexFault.{LexFault}
use Rattle.mlir_lex.specs.Text.{IsGap, FailsAt, BeginsWith, LexesFrom, Lexes}
use Rattle.mlir_lex.specs.Scan.{next_is, begins, pieces, gap_piece, comment_len, gap_len, kind_of, kind_at, length_of, length_of_some, token_len, fault_at, read_clear, read_kind, read_token, outcome}
use Rattle.mlir_lex.specs.Text.{Outcome}
use Rattle.mlir_lex.proofs.Outcomes.{outcome-gaps, Follows, clear-follows}
use Rattle.mlir_lex.proofs.TokenLemmas.{token-parts}
use Rattle.mlir_lex.proofs.GapLemmas.{token-clear, gap-front, gap-parts, longest-is, longest-front}
use Rattle.mlir_lex.proofs.FaultLemmas.{stands-is, stands-meets}

-- a cut that is given as an outcome
abbrev pub LexesWith : ℕ → List ℕ → Outcome → Type 0
LexesWith at text o = LexesFrom at text o.tokens o.fault

-- what a read gives
read-token-is : (at : ℕ) (text : List ℕ) (kind : TokenKind) (n : ℕ) → kind_at text ≡ Some kind → length_of kind text ≡ suc n → read_clear at text ≡ Ok (Some (record { kind = kind; start = at; end = at + suc n }))
unfolding read_clear kind_at
read-token-is at [] kind n h e = absurd cc
read-token-is at (b ∷ bs) kind n h e = ap (read_kind at (b ∷ bs)) h ∙ ap (read_token at (b ∷ bs) kind) e

read-fault-is : (at : ℕ) (text : List ℕ) → 0 < length text → token_len text ≡ 0 → read_clear at text ≡ Err (fault_at at text)
unfolding read_clear token_len kind_at
read-fault-is at [] h e = absurd (omega (arith, h))
read-fault-is at (b ∷ bs) h e = by_kind (kind_of b) e
  where
    by_kind : (k : Option TokenKind) → length_of_some k (b ∷ bs) ≡ 0 → read_kind at (b ∷ bs) k ≡ Err (fault_at at (b ∷ bs))
    by_kind None k = refl
    by_kind (Some kind) k = ap (read_token at (b ∷ bs) kind) k

-- behind a gap
behind-gap : (at : ℕ) (text gap rest : List ℕ) → text ≡ gap ++ rest → gap_len text ≡ length gap → outcome at 0 text ≡ outcome (at + length gap) 0 rest
unfolding gap_len
behind-gap at text gap rest whole len =
    let there : drop (pieces gap_piece 0 text) text ≡ rest = ap (drop (pieces gap_piece 0 text)) whole ∙ drop_at gap rest (pieces gap_piece 0 text) (sym len) in
    outcome-gaps at 0 text ∙ ap (λ x. outcome (at + pieces gap_piece 0 text) 0 x) there ∙ ap (λ n. outcome (at + n) 0 rest) len

-- what follows a read, where the answer is known
follows-at : (at : ℕ) (text : List ℕ) (r : Result (Option Token) LexFault) → gap_piece text ≡ 0 → read_clear at text ≡ r → Follows at text r (outcome at 0 text)
follows-at at text r h e = let P : Result (Option Token) LexFault → Type 0 = λ x. Follows at text x (outcome at 0 text) in subst P e (clear-follows at text h)

token-follows-at : (at : ℕ) (text : List ℕ) (t : Token) (piece rest : List ℕ) → Follows at text (Ok (Some t)) (outcome at 0 text) → text ≡ piece ++ rest → t.end ≡ at + length piece → outcome at 0 text ≡ record { tokens = t ∷ (outcome t.end 0 rest).tokens; fault = (outcome t.end 0 rest).fault }
token-follows-at at text t piece rest h whole len =
    let there : drop (t.end - at) text ≡ rest = ap (drop (t.end - at)) whole ∙ drop_at piece rest (t.end - at) (omega (arith, len)) in
    h.1 ∙ ap (λ (x : List ℕ). record { tokens = t ∷ (outcome t.end 0 x).tokens; fault = (outcome t.end 0 x).fault }) there

-- what is computed is a cut
fault-cut : (at : ℕ) (text gap : List ℕ) (b : ℕ) (bs : List ℕ) → text ≡ gap ++ b ∷ bs → IsGap gap (b ∷ bs) → gap_piece (b ∷ bs) ≡ 0 → token_len (b ∷ bs) ≡ 0 → LexesWith at text (outcome (at + length gap) 0 (b ∷ bs))
unfolding LexesFrom
fault-cut at text gap b bs whole is clear none =
    let o = follows-at (at + length gap) (b ∷ bs) _ clear (read-fault-is (at + length gap) (b ∷ bs) (omega arith) none) in
    let cut : FailsAt at text (fault_at (at + length gap) (b ∷ bs)) = record { gap = gap; rest = b ∷ bs; whole = whole; is_gap = is; stands = stands-is (at + length gap) b bs clear none } in
    subst (λ (x : Outcome). LexesWith at text x) (sym o) cut

token-cut : (at : ℕ) (text gap : List ℕ) (b : ℕ) (bs : List ℕ) (kind : TokenKind) (n : ℕ) → text ≡ gap ++ b ∷ bs → IsGap gap (b ∷ bs) → gap_piece (b ∷ bs) ≡ 0 → kind_of b ≡ Some kind → length_of kind (b ∷ bs) ≡ suc n → ((at' : ℕ) (left : List ℕ) → length left ≤ length bs → LexesWith at' left (outcome at' 0 left)) → LexesWith at text (outcome (at + length gap) 0 (b ∷ bs))
unfolding LexesFrom kind_at
token-cut at text gap b bs kind n whole is clear k len more =
    let parts = token-parts kind b bs k (omega (arith, len)) in
    let t : Token = record { kind = kind; start = at + length gap; end = at + length gap + suc n } in
    let follows = follows-at (at + length gap) (b ∷ bs) (Ok (Some t)) clear (read-token-is (at + length gap) (b ∷ bs) kind n k len) in
    let o = token-follows-at (at + length gap) (b ∷ bs) t parts.front parts.back follows parts.whole (omega (arith, parts.len, len)) in
    let P : List ℕ → Type 0 = λ x. IsGap gap x in
    let begins : BeginsWith at text t parts.back = record { gap = gap; piece = parts.front; whole = whole ∙ ap (λ x. gap ++ x) parts.whole; is_gap = subst P parts.whole is; longest = longest-is (b ∷ bs) kind parts.front parts.back k parts.whole parts.len parts.good; start = refl; end = omega (arith, parts.len, len) } in
    let cut : LexesWith at text (record { tokens = t ∷ (outcome t.end 0 parts.back).tokens; fault = (outcome t.end 0 parts.back).fault }) = (parts.back, begins, more t.end parts.back (omega (arith, ap length parts.whole, length-append parts.front parts.back, parts.len, len))) in
    subst (λ (x : Outcome). LexesWith at text x) (sym o) cut

end-cut : (at : ℕ) (text gap : List ℕ) → text ≡ gap ++ [] → IsGap gap [] → LexesWith at text (outcome (at + length gap) 0 [])
unfolding LexesFrom outcome
end-cut at text gap whole is = let P : List ℕ → Type 0 = λ x. IsGap x [] in subst P (sym (whole ∙ append-nil gap)) is

clear-cut : (at : ℕ) (text gap rest : List ℕ) → text ≡ gap ++ rest → IsGap gap rest → gap_piece rest ≡ 0 → ((at' : ℕ) (left : List ℕ) → suc (length left) ≤ length rest → LexesWith at' left (outcome at' 0 left)) → LexesWith at text (outcome (at + length gap) 0 rest)
unfolding token_len kind_at
clear-cut at text gap [] whole is clear more = end-cut at text gap whole is
clear-cut at text gap (b ∷ bs) whole is clear more = by_kind (kind_of b) refl
  where
    by_length : (kind : TokenKind) → kind_of b ≡ Some kind → (n : ℕ) → length_of kind (b ∷ bs) ≡ n → LexesWith at text (outcome (at + length gap) 0 (b ∷ bs))
    by_length kind e zero f = fault-cut at text gap b bs whole is clear (ap (λ k. length_of_some k (b ∷ bs)) e ∙ f)
    by_length kind e (suc n) f = token-cut at text gap b bs kind n whole is clear e f (λ at' left l. more at' left (omega (arith, l)))

    by_kind : (k : Option TokenKind) → kind_of b ≡ k → LexesWith at text (outcome (at + length gap) 0 (b ∷ bs))
    by_kind None e = fault-cut at text gap b bs whole is clear (ap (λ k. length_of_some k (b ∷ bs)) e)
    by_kind (Some kind) e = by_length kind e (length_of kind (b ∷ bs)) refl

pub outcome-cuts : (fuel at : ℕ) (text : List ℕ) → length text ≤ fuel → LexesWith at text (outcome at 0 text)
unfolding gap_len
outcome-cuts zero at text h =
    let parts = gap-parts (length text) text (omega arith) in
    subst (λ (x : Outcome). LexesWith at text x) (sym (behind-gap at text parts.front parts.back parts.whole (sym parts.len)))
    (clear-cut at text parts.front parts.back parts.whole parts.good.0 parts.good.1 (λ at' left l. absurd (omega (arith, h, l, ap length parts.whole, length-append parts.front parts.back))))
outcome-cuts (suc fuel) at text h =
    let parts = gap-parts (length text) text (omega arith) in
    subst (λ (x : Outcome). LexesWith at text x) (sym (behind-gap at text parts.front parts.back parts.whole (sym parts.len)))
    (clear-cut at text parts.front parts.back parts.whole parts.good.0 parts.good.1 (λ at' left l. outcome-cuts fuel at' left (omega (arith, h, l, ap length parts.whole, length-append parts.front parts.back))))

-- and every cut is what is computed
gap_piece-nil : gap_piece [] ≡ 0
unfolding gap_piece next_is comment_len begins
gap_piece-nil = refl

kind-clear : (text : List ℕ) (kind : TokenKind) → kind_at text ≡ Some kind → gap_piece text ≡ 0
unfolding kind_at
kind-clear [] kind h = gap_piece-nil
kind-clear (b ∷ bs) kind h = token-clear b bs kind h

token-same : (t : Token) (start end : ℕ) → t.start ≡ start → t.end ≡ end → ◌≡◌ {A = Token} (record { kind = t.kind; start = start; end = end }) t
token-same t start end h k = rw (sym h, sym k) refl

gap-behind : (at : ℕ) (text gap rest : List ℕ) → text ≡ gap ++ rest → IsGap gap rest → gap_piece rest ≡ 0 → outcome at 0 text ≡ outcome (at + length gap) 0 rest
gap-behind at text gap rest whole is clear = behind-gap at text gap rest whole (ap gap_len whole ∙ gap-front gap rest is clear)

outcome-nil : (at : ℕ) → outcome at 0 [] ≡ record { tokens = []; fault = None }
unfolding outcome
outcome-nil at = refl

token-is : (at : ℕ) (text : List ℕ) (t : Token) (rest : List ℕ) → BeginsWith at text t rest → outcome at 0 text ≡ record { tokens = t ∷ (outcome t.end 0 rest).tokens; fault = (outcome t.end 0 rest).fault }
token-is at text t rest b =
    let l = longest-front t.kind b.piece rest b.longest in
    let clear = kind-clear (b.piece ++ rest) t.kind l.0 in
    by_length (length b.piece) refl l.0 l.1 l.2 clear
  where
    by_length : (n : ℕ) → length b.piece ≡ n → kind_at (b.piece ++ rest) ≡ Some t.kind → length_of t.kind (b.piece ++ rest) ≡ length b.piece → 0 < length b.piece → gap_piece (b.piece ++ rest) ≡ 0 → outcome at 0 text ≡ record { tokens = t ∷ (outcome t.end 0 rest).tokens; fault = (outcome t.end 0 rest).fault }
    by_length zero e k len some clear = absurd (omega (arith, e, some))
    by_length (suc n) e k len some clear =
        let read = read-token-is (at + length b.gap) (b.piece ++ rest) t.kind n k (len ∙ e) in
        let same = token-same t (at + length b.gap) (at + length b.gap + suc n) b.start (omega (arith, b.start, b.end, e)) in
        let follows = follows-at (at + length b.gap) (b.piece ++ rest) (Ok (Some t)) clear (read ∙ ap (λ (x : Token). Ok (Some x)) same) in
        gap-behind at text b.gap (b.piece ++ rest) b.whole b.is_gap clear ∙ token-follows-at (at + length b.gap) (b.piece ++ rest) t b.piece rest follows refl (omega (arith, b.start, b.end))

pub cut-is : (tokens : List Token) (at : ℕ) (text : List ℕ) (fault : Option LexFault) → LexesFrom at text tokens fault → outcome at 0 text ≡ record { tokens = tokens; fault = fault }
unfolding LexesFrom
cut-is [] at text None is = gap-behind at text text [] (sym (append-nil text)) is gap_piece-nil ∙ outcome-nil (at + length text)
cut-is [] at text (Some fault) f =
    let m = stands-meets fault.kind (at + length f.gap) f.rest fault.place f.stands in
    gap-behind at text f.gap f.rest f.whole f.is_gap m.clear ∙ follows-at (at + length f.gap) f.rest (Err fault) m.clear (read-fault-is (at + length f.gap) f.rest m.some m.no_token ∙ ap (λ (x : LexFault). Err x) m.fault_is)
cut-is (t ∷ ts) at text fault (rest, b, more) =
    token-is at text t rest b ∙ ap (λ (o : Outcome). record { tokens = t ∷ o.tokens; fault = o.fault }) (cut-is ts t.end rest fault more)

-- the tokens and the fault of a text are one
pub lexes_once : (text : List ℕ) (tokens others : List Token) (fault other : Option LexFault) → Lexes text tokens fault → Lexes text others other → (tokens ≡ others) × (fault ≡ other)
unfolding Lexes
lexes_once text tokens others fault other h k =
    let same : ◌≡◌ {A = Outcome} (record { tokens = tokens; fault = fault }) (record { tokens = others; fault = other }) = sym (cut-is tokens 0 text fault h) ∙ cut-is others 0 text other k in
    (ap (λ (o : Outcome). o.tokens) same, ap (λ (o : Outcome). o.fault) same)

-- and every text has them
pub lexes_some : (text : List ℕ) → Lexes text (outcome 0 0 text).tokens (outcome 0 0 text).fault
unfolding Lexes
lexes_some text = outcome-cuts (length text) 0 text (omega arith)
