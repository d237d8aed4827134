-- Faults: what is computed stands there, and what stands there is computed.
use Rattle.std.proofs.Common.{◌≡◌, inl, inr, ℕ, ◌+◌, ◌<◌, suc, zero, Bool, true, false, ◌&&◌, ◌==◌, cond, List, [], ◌∷◌, ◌++◌, length, drop, refl, sym, ap, ◌∙◌, subst, arith, append_assoc, length-append}
use Rattle.std.proofs.lemmas.List.{drop_at}
use Rattle.std.proofs.lemmas.Bool.{false≢true}
use Rattle.mlir_lex.specs.declared.TokenKind.TheVariants.{SymbolName, Text}
use Rattle.mlir_lex.specs.declared.LexFault.{LexFault}
use Rattle.mlir_lex.specs.declared.LexKind.{LexKind}
use Rattle.mlir_lex.specs.declared.LexKind.TheVariants.{BadByte, OpenString, BadEscape}
use Rattle.mlir_lex.specs.Bytes.{is_digit, is_letter, starts_bare, is_plain, is_on_line}
use Rattle.mlir_lex.specs.Tokens.{IsEscape, IsInside, IsString}
use Rattle.mlir_lex.specs.Text.{Closes, IsLead, IsBadEscape, IsBadByte, Stands}
use Rattle.mlir_lex.specs.Scan.{next_is, begins, behind, pieces, string_piece, gap_piece, escape_len, inside_len, closes, string_len, symbol_tail_len, kind_of, kind_at, length_of, token_len, string_fault, fault_at}
use Rattle.mlir_lex.proofs.Runs.{string_piece-escape, closes-feed}
use Rattle.mlir_lex.proofs.Lengths.{and-left, and-right, eqb-is, eqb-refl, one-answer}
use Rattle.mlir_lex.proofs.StringLemmas.{begins-is, escape-front, escape-parts, escape-some, escape-not-plain, inside-front, InsideParts, inside-parts, string-parts, unclosed-inside, closes-front, closes-parts, closes-unclosed, plain-is}
use Rattle.mlir_lex.proofs.GapLemmas.{token-clear, clear-is, clear-front, no-token-is, no-token-front}

-- where a string begins, no gap does
string-kind : (lead inside : List ℕ) → IsLead lead → gap_piece (lead ++ 34 ∷ inside) ≡ 0
unfolding IsLead kind_of starts_bare is_letter is_digit
string-kind lead inside (inl e) = ap (λ x. gap_piece (x ++ 34 ∷ inside)) e ∙ token-clear 34 inside Text refl
string-kind lead inside (inr e) = ap (λ x. gap_piece (x ++ 34 ∷ inside)) e ∙ token-clear 64 (34 ∷ inside) SymbolName refl

-- its fault
lead-fault : (at : ℕ) (lead inside : List ℕ) → IsLead lead → fault_at at (lead ++ 34 ∷ inside) ≡ string_fault (at + length lead) inside
unfolding IsLead fault_at begins
lead-fault at lead inside (inl e) = ap (λ x. fault_at at (x ++ 34 ∷ inside)) e ∙ ap (λ n. string_fault n inside) (let z : at ≡ at + length lead = omega (arith, ap length e) in z)
lead-fault at lead inside (inr e) = ap (λ x. fault_at at (x ++ 34 ∷ inside)) e ∙ ap (λ n. string_fault n inside) (let z : at + 1 ≡ at + length lead = omega (arith, ap length e) in z)

-- no token begins there where no string does
lead-no-token : (lead inside : List ℕ) → IsLead lead → string_len (34 ∷ inside) ≡ 0 → token_len (lead ++ 34 ∷ inside) ≡ 0
unfolding IsLead token_len kind_at kind_of starts_bare is_letter is_digit length_of symbol_tail_len begins behind
lead-no-token lead inside (inl e) h = ap (λ x. token_len (x ++ 34 ∷ inside)) e ∙ h
lead-no-token lead inside (inr e) h = ap (λ x. token_len (x ++ 34 ∷ inside)) e ∙ ap (λ n. behind 1 n) h

lead-token : (lead inside : List ℕ) → IsLead lead → token_len (lead ++ 34 ∷ inside) ≡ 0 → string_len (34 ∷ inside) ≡ 0
unfolding IsLead token_len kind_at kind_of starts_bare is_letter is_digit length_of symbol_tail_len begins behind
lead-token lead inside (inl e) h = sym (ap (λ x. token_len (x ++ 34 ∷ inside)) e) ∙ h
lead-token lead inside (inr e) h = behind-zero (string_len (34 ∷ inside)) (sym (ap (λ x. token_len (x ++ 34 ∷ inside)) e) ∙ h)
  where
    behind-zero : (n : ℕ) → behind 1 n ≡ 0 → n ≡ 0
    behind-zero zero h = refl
    behind-zero (suc n) h = absurd (omega (arith, h))

-- the first byte behind the inside, where no string ends there
bad-byte : (b : ℕ) (bs : List ℕ) → string_piece (b ∷ bs) ≡ 0 → begins 34 (b ∷ bs) ≡ false → closes false (b ∷ bs) ≡ true → b ≡ 92
unfolding string_piece next_is begins
bad-byte b bs h q k = by_tests (is_plain b) refl (b == 92) refl (b == 10) refl
  where
    by_tests : (s : Bool) → is_plain b ≡ s → (t : Bool) → (b == 92) ≡ t → (u : Bool) → (b == 10) ≡ u → b ≡ 92
    by_tests s e true f u g = eqb-is b 92 f
    by_tests s e false f true g = absurd (one-answer k (closes-feed false b bs (eqb-is b 10 g)))
    by_tests true e false f false g = absurd (omega (arith, sym (ap (λ t. cond t 1 (escape_len (b ∷ bs))) e) ∙ h))
    by_tests false e false f false g = absurd (one-answer (plain-is b (λ z. one-answer (ap (λ x. x == 10) z ∙ eqb-refl 10) g) (λ z. one-answer (ap (λ x. x == 34) z ∙ eqb-refl 34) q) (λ z. one-answer (ap (λ x. x == 92) z ∙ eqb-refl 92) f)) e)

bad-escape : (bad : List ℕ) → string_piece bad ≡ 0 → begins 34 bad ≡ false → closes false bad ≡ true → IsBadEscape bad
unfolding closes
bad-escape [] h q k = absurd (false≢true k)
bad-escape (b ∷ bs) h q k = record { more = bs; is = ap (λ x. x ∷ bs) (bad-byte b bs h q k); none = no_escape }
  where
    no_escape : (front back : List ℕ) → IsEscape front → front ++ back ≡ b ∷ bs → ⊥
    no_escape front back is whole = omega (arith, h, ap string_piece whole, string_piece-escape (front ++ back) (escape-not-plain front back is), escape-front front back is, escape-some front is)

-- no string ends behind the inside
not-ended : (inside : List ℕ) (parts : InsideParts inside) → string_len (34 ∷ inside) ≡ 0 → begins 34 parts.back ≡ false
unfolding string_len begins inside_len
not-ended inside parts h =
    let there : drop (pieces string_piece 0 inside) inside ≡ parts.back = ap (drop (pieces string_piece 0 inside)) parts.whole ∙ drop_at parts.front parts.back (pieces string_piece 0 inside) parts.len in
    sym (ap (begins 34) there) ∙ by_test (begins 34 (drop (pieces string_piece 0 inside) inside)) h
  where
    by_test : (t : Bool) → cond t (pieces string_piece 0 inside + 2) 0 ≡ 0 → t ≡ false
    by_test true k = absurd (omega (arith, k))
    by_test false k = refl

-- the fault of a string stands there
pub string-stands : (at : ℕ) (lead inside text : List ℕ) → IsLead lead → text ≡ lead ++ 34 ∷ inside → string_len (34 ∷ inside) ≡ 0 → Stands (string_fault (at + length lead) inside).kind at text (string_fault (at + length lead) inside).place
unfolding string_fault Stands inside_len
string-stands at lead inside text is whole h = by_closes (closes false inside) refl
  where
    by_closes : (t : Bool) → closes false inside ≡ t → Stands (cond {A = LexFault} t (record { place = at + length lead + 1 + inside_len inside; kind = BadEscape }) (record { place = at + length lead; kind = OpenString })).kind at text (cond {A = LexFault} t (record { place = at + length lead + 1 + inside_len inside; kind = BadEscape }) (record { place = at + length lead; kind = OpenString })).place
    by_closes true e =
        let parts = inside-parts (length inside) inside (omega arith) in
        let closed : closes false parts.back ≡ true = sym (closes-unclosed parts.front parts.back (unclosed-inside parts.front parts.good.0)) ∙ ap (closes false) (sym parts.whole) ∙ e in
        let closed_inside : Closes inside = closes-parts false inside e in
        record { lead = lead; good = parts.front; bad = parts.back; is_lead = is; is = whole ∙ ap (λ x. lead ++ 34 ∷ x) parts.whole; closes = (let P : List ℕ → Type 0 = λ x. Closes x in subst P parts.whole closed_inside); is_good = parts.good.0; is_bad = bad-escape parts.back parts.good.1 (not-ended inside parts h) closed; here = omega (arith, parts.len) }
    by_closes false e = record { lead = lead; inside = inside; is_lead = is; is = whole; open_end = λ c. one-answer (closes-front inside c) e; here = refl }

-- a fault that is computed stands there
fault-bad : (at : ℕ) (text : List ℕ) → begins 34 text ≡ false → (begins 64 text && begins 34 (drop 1 text)) ≡ false → fault_at at text ≡ record { place = at; kind = BadByte }
unfolding fault_at
fault-bad at text h k = rw (h, k) refl

no-string : (text : List ℕ) → begins 34 text ≡ false → (begins 64 text && begins 34 (drop 1 text)) ≡ false → (lead inside : List ℕ) → IsLead lead → lead ++ 34 ∷ inside ≡ text → ⊥
unfolding IsLead begins
no-string text h k lead inside (inl e) whole = let r : true ≡ true = refl in one-answer r (ap (begins 34) (ap (λ x. x ++ 34 ∷ inside) (sym e) ∙ whole) ∙ h)
no-string text h k lead inside (inr e) whole = let r : true ≡ true = refl in one-answer r (ap (λ x. begins 64 x && begins 34 (drop 1 x)) (ap (λ x. x ++ 34 ∷ inside) (sym e) ∙ whole) ∙ k)

some-string : (at : ℕ) (lead inside text : List ℕ) → IsLead lead → text ≡ lead ++ 34 ∷ inside → token_len text ≡ 0 → Stands (fault_at at text).kind at text (fault_at at text).place
some-string at lead inside text is whole h =
    let e : string_fault (at + length lead) inside ≡ fault_at at text = sym (ap (fault_at at) whole ∙ lead-fault at lead inside is) in
    let P : LexFault → Type 0 = λ f. Stands f.kind at text f.place in
    subst P e (string-stands at lead inside text is whole (lead-token lead inside is (sym (ap token_len whole) ∙ h)))

at-quote : (text : List ℕ) → (begins 64 text && begins 34 (drop 1 text)) ≡ true → (more : List ℕ) × (text ≡ 64 ∷ 34 ∷ more)
unfolding begins
at-quote [] h = absurd (false≢true h)
at-quote (b ∷ []) h = absurd (false≢true (and-right (b == 64) _ h))
at-quote (b ∷ c ∷ cs) h = (cs, ap (λ x. x ∷ c ∷ cs) (eqb-is b 64 (and-left _ _ h)) ∙ ap (λ x. 64 ∷ x ∷ cs) (eqb-is c 34 (and-right (b == 64) _ h)))

pub stands-is : (at b : ℕ) (bs : List ℕ) → gap_piece (b ∷ bs) ≡ 0 → token_len (b ∷ bs) ≡ 0 → Stands (fault_at at (b ∷ bs)).kind at (b ∷ bs) (fault_at at (b ∷ bs)).place
unfolding Stands IsLead
stands-is at b bs h k = by_tests (begins 34 (b ∷ bs)) refl (begins 64 (b ∷ bs) && begins 34 bs) refl
  where
    by_tests : (s : Bool) → begins 34 (b ∷ bs) ≡ s → (t : Bool) → (begins 64 (b ∷ bs) && begins 34 bs) ≡ t → Stands (fault_at at (b ∷ bs)).kind at (b ∷ bs) (fault_at at (b ∷ bs)).place
    by_tests true e t f = let quote = begins-is 34 (b ∷ bs) e in some-string at [] quote.0 (b ∷ bs) (inl refl) quote.1 k
    by_tests false e true f = let quote = at-quote (b ∷ bs) f in some-string at (64 ∷ []) quote.0 (b ∷ bs) (inr refl) quote.1 k
    by_tests false e false f =
        let bad : IsBadByte at (b ∷ bs) at = record { byte = b; more = bs; is = refl; clear = clear-is (b ∷ bs) h; no_token = no-token-is (b ∷ bs) k; no_string = no-string (b ∷ bs) e f; here = refl } in
        let P : LexFault → Type 0 = λ g. Stands g.kind at (b ∷ bs) g.place in
        subst P (sym (fault-bad at (b ∷ bs) e f)) bad

-- what a read meets where a fault stands
pub record Meets (at : ℕ) (text : List ℕ) (fault : LexFault) : Type 0 where
  pub clear : gap_piece text ≡ 0
  pub no_token : token_len text ≡ 0
  pub fault_is : fault_at at text ≡ fault
  pub some : 0 < length text

string-meets : (at : ℕ) (lead inside text : List ℕ) (fault : LexFault) → IsLead lead → text ≡ lead ++ 34 ∷ inside → string_len (34 ∷ inside) ≡ 0 → string_fault (at + length lead) inside ≡ fault → Meets at text fault
string-meets at lead inside text fault is whole none e = record {
  clear = ap gap_piece whole ∙ string-kind lead inside is;
  no_token = ap token_len whole ∙ lead-no-token lead inside is none;
  fault_is = ap (fault_at at) whole ∙ lead-fault at lead inside is ∙ e;
  some = omega (arith, ap length whole, length-append lead (34 ∷ inside));
}

open-no-string : (inside : List ℕ) → (Closes inside → ⊥) → string_len (34 ∷ inside) ≡ 0
unfolding IsString Closes
open-no-string inside open_end = by_length (string_len (34 ∷ inside)) refl
  where
    found : (s back : List ℕ) → 34 ∷ inside ≡ (34 ∷ (s ++ 34 ∷ [])) ++ back → inside ≡ s ++ 34 ∷ back
    found s back e = ap (drop 1) e ∙ append_assoc s (34 ∷ []) back

    by_length : (n : ℕ) → string_len (34 ∷ inside) ≡ n → n ≡ 0
    by_length zero e = refl
    by_length (suc n) e =
        let parts = string-parts (34 ∷ inside) (omega (arith, e)) in
        let s = parts.good.0 in
        absurd (open_end (s, parts.back, found s parts.back (parts.whole ∙ ap (λ x. x ++ parts.back) parts.good.1), unclosed-inside s parts.good.2))

bad-no-piece : (bad : List ℕ) → IsBadEscape bad → string_piece bad ≡ 0
unfolding next_is is_plain is_on_line
bad-no-piece bad w = string_piece-escape bad (ap (next_is is_plain) w.is) ∙ by_length (escape_len bad) refl
  where
    by_length : (n : ℕ) → escape_len bad ≡ n → n ≡ 0
    by_length zero e = refl
    by_length (suc n) e = let parts = escape-parts bad (omega (arith, e)) in absurd (w.none parts.front parts.back parts.good (sym parts.whole))

bad-no-quote : (bad : List ℕ) → IsBadEscape bad → begins 34 bad ≡ false
unfolding begins
bad-no-quote bad w = ap (begins 34) w.is

escape-no-string : (good bad : List ℕ) → IsInside good → IsBadEscape bad → string_len (34 ∷ (good ++ bad)) ≡ 0
unfolding string_len begins
escape-no-string good bad is w =
    let there : drop (inside_len (good ++ bad)) (good ++ bad) ≡ bad = drop_at good bad _ (sym (inside-front good bad is (bad-no-piece bad w))) in
    let quote : begins 34 (drop (inside_len (good ++ bad)) (good ++ bad)) ≡ false = ap (begins 34) there ∙ bad-no-quote bad w in
    rw quote refl

no-lead : IsLead []
unfolding IsLead
no-lead = inl refl

at-lead : IsLead (64 ∷ [])
unfolding IsLead
at-lead = inr refl

fault-open : (quote : ℕ) (inside : List ℕ) (place : ℕ) → closes false inside ≡ false → place ≡ quote → string_fault quote inside ≡ record { place = place; kind = OpenString }
unfolding string_fault
fault-open quote inside place e h = rw e (ap (λ n. record { place = n; kind = OpenString }) (sym h))

fault-escape : (quote : ℕ) (inside : List ℕ) (place : ℕ) → closes false inside ≡ true → place ≡ quote + 1 + inside_len inside → string_fault quote inside ≡ record { place = place; kind = BadEscape }
unfolding string_fault
fault-escape quote inside place e h = rw e (ap (λ n. record { place = n; kind = BadEscape }) (sym h))

pub stands-meets : (kind : LexKind) (at : ℕ) (text : List ℕ) (place : ℕ) → Stands kind at text place → Meets at text (record { place = place; kind = kind })
unfolding Stands
stands-meets BadByte at text place s = by_tests (begins 34 text) refl (begins 64 text && begins 34 (drop 1 text)) refl
  where
    by_tests : (u : Bool) → begins 34 text ≡ u → (t : Bool) → (begins 64 text && begins 34 (drop 1 text)) ≡ t → Meets at text (record { place = place; kind = BadByte })
    by_tests true e t f = let quote = begins-is 34 text e in absurd (s.no_string [] quote.0 (no-lead) (sym quote.1))
    by_tests false e true f = let quote = at-quote text f in absurd (s.no_string (64 ∷ []) quote.0 (at-lead) (sym quote.1))
    by_tests false e false f = record {
      clear = clear-front text s.clear;
      no_token = no-token-front text s.no_token;
      fault_is = fault-bad at text e f ∙ ap (λ n. record { place = n; kind = BadByte }) (sym s.here);
      some = omega (arith, ap length s.is);
    }
stands-meets OpenString at text place s = string-meets at s.lead s.inside text (record { place = place; kind = OpenString }) s.is_lead s.is (open-no-string s.inside s.open_end) (open-fault (closes false s.inside) refl)
  where
    open-fault : (t : Bool) → closes false s.inside ≡ t → string_fault (at + length s.lead) s.inside ≡ record { place = place; kind = OpenString }
    open-fault true e = absurd (s.open_end (closes-parts false s.inside e))
    open-fault false e = fault-open (at + length s.lead) s.inside place e s.here
stands-meets BadEscape at text place s = string-meets at s.lead (s.good ++ s.bad) text (record { place = place; kind = BadEscape }) s.is_lead s.is (escape-no-string s.good s.bad s.is_good s.is_bad) (fault-escape (at + length s.lead) (s.good ++ s.bad) place (closes-front (s.good ++ s.bad) s.closes) (omega (arith, s.here, inside-front s.good s.bad s.is_good (bad-no-piece s.bad s.is_bad))))
