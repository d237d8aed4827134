-- Places that are put into a table: where each stands among those that were asked for.
use Rattle.std.proofs.Common.{◌≡◌, ℕ, ◌+◌, Bool, true, false, List, [], ◌∷◌, ◌++◌, map, refl, sym, ap, ◌∙◌, arith, true≢false}
use Rattle.std.specs.Prelude.{◌||◌, not, cond, if◌then◌else◌}
use Rattle.std.specs.List.{list_any, position_or_len}
use Rattle.std.proofs.lemmas.List.{append_assoc}
use Rattle.indexmap.specs.IndexSet.{insert_key}
use Rattle.conversion_model.specs.Fresh.{Place, new_value, of_row, same_place}
use Rattle.new_numbers.specs.contracts.place.ValuePlacePartialEq.TheImpl as place_eq
use Rattle.new_numbers.specs.declared.place.ValuePlace.{ValuePlace}
use Rattle.new_numbers.specs.declared.place.ValuePlace.TheVariants.{OfRow, OfLine, OfFunction, OfBlock}
use Rattle.new_numbers.specs.Tables.{Extends, Grows, Numbering, among, place_of, supply_of}
use Rattle.new_numbers.proofs.FreshTables.{place_same, value_at}

-- `==` of places
abbrev pub equal : ValuePlace → ValuePlace → Bool
equal = (place_eq.eq-value).it

pub equal_is : (p q : ValuePlace) → equal p q ≡ same_place (place_of p) (place_of q)
equal_is (OfRow m j) (OfRow n k) = refl
equal_is (OfRow m j) (OfLine n q k) = refl
equal_is (OfRow m j) (OfFunction k) = refl
equal_is (OfRow m j) (OfBlock n k) = refl
equal_is (OfLine m p j) (OfRow n k) = refl
equal_is (OfLine m p j) (OfLine n q k) = refl
equal_is (OfLine m p j) (OfFunction k) = refl
equal_is (OfLine m p j) (OfBlock n k) = refl
equal_is (OfFunction j) (OfRow n k) = refl
equal_is (OfFunction j) (OfLine n q k) = refl
equal_is (OfFunction j) (OfFunction k) = refl
equal_is (OfFunction j) (OfBlock n k) = refl
equal_is (OfBlock m j) (OfRow n k) = refl
equal_is (OfBlock m j) (OfLine n q k) = refl
equal_is (OfBlock m j) (OfFunction k) = refl
equal_is (OfBlock m j) (OfBlock n k) = refl

one_on : (a b : Bool) → a ≡ b → (m n : ℕ) → (a ≡ false → m ≡ n) → (if b then 0 else m + 1) ≡ cond (not a) (1 + n) 0
one_on true true e m n h = refl
one_on false false e m n h = omega (arith, h refl)
one_on true false e m n h = absurd (true≢false e)
one_on false true e m n h = absurd (true≢false (sym e))

-- a place that is there
there : (v : ValuePlace) (ks : List ValuePlace) (more : List Place) → list_any (equal v) ks ≡ true → among (map place_of ks ++ more) (place_of v) ≡ position_or_len (equal v) ks
there v [] more e = absurd (true≢false (sym e))
there v (k ∷ ks) more e =
    one_on (equal v k) (same_place (place_of v) (place_of k)) (equal_is v k) _ _ (λ f. there v ks more (sym (ap (λ b. b || list_any (equal v) ks) f) ∙ e))

or_both : (a b : Bool) → (a || b) ≡ false → b ≡ false
or_both false b e = e
or_both true b e = absurd (true≢false e)

-- a place that is put last
last : (v : ValuePlace) (ks : List ValuePlace) (more : List Place) → list_any (equal v) ks ≡ false → among (map place_of (ks ++ v ∷ []) ++ more) (place_of v) ≡ position_or_len (equal v) ks
last v [] more e = ap (λ b. if b then 0 else among more (place_of v) + 1) (place_same (place_of v))
last v (k ∷ ks) more e =
    one_on (equal v k) (same_place (place_of v) (place_of k)) (equal_is v k) _ _ (λ f. last v ks more (or_both (equal v k) (list_any (equal v) ks) e))

put_by : (v : ValuePlace) (ks : List ValuePlace) (more : List Place) (b : Bool) → list_any (equal v) ks ≡ b
    → among (map place_of (if b then ks else ks ++ v ∷ []) ++ more) (place_of v) ≡ position_or_len (equal v) ks
put_by v ks more true e = there v ks more e
put_by v ks more false e = last v ks more e

-- a place that was put stands in each longer list where `insert` says
pub stays : (old new : List ValuePlace) (v : ValuePlace) (u : List Place) → new ≡ insert_key equal old v → Grows (map place_of new) u → among u (place_of v) ≡ position_or_len (equal v) old
stays old new v u put h =
    ap (λ ps. among ps (place_of v)) h.is ∙ ap (λ ks. among (map place_of ks ++ h.more) (place_of v)) put ∙ put_by v old h.more (list_any (equal v) old) refl

pub value_stays : (old new : List ValuePlace) (v : ValuePlace) (t u : Numbering) (i n : ℕ) → new ≡ insert_key equal old v → t.values ≡ map place_of new → Extends t u
    → i ≡ position_or_len (equal v) old → n ≡ t.base + i → new_value (supply_of u) (place_of v) ≡ n
value_stays old new v t u i n put is h at number =
    let grown : Grows (map place_of new) u.values = record { more = h.values.more; is = h.values.is ∙ ap (λ ps. ps ++ h.values.more) is } in
    value_at u (place_of v) ∙ ap (λ b. b + among u.values (place_of v)) h.base ∙ ap (λ k. t.base + k) (stays old new v u.values put grown ∙ sym at) ∙ sym number

pub label_stays : (old new : List ValuePlace) (m k : ℕ) (t u : Numbering) (i n : ℕ) → new ≡ insert_key equal old (OfRow m k) → t.labels ≡ map place_of new → Extends t u
    → i ≡ position_or_len (equal (OfRow m k)) old → n ≡ t.label_base + i → ((supply_of u).row m).label k ≡ n
label_stays old new m k t u i n put is h at number =
    let grown : Grows (map place_of new) u.labels = record { more = h.labels.more; is = h.labels.is ∙ ap (λ ps. ps ++ h.labels.more) is } in
    ap (λ b. b + among u.labels (of_row m k)) h.label_base ∙ ap (λ x. t.label_base + x) (stays old new (OfRow m k) u.labels put grown ∙ sym at) ∙ sym number

-- Tables that extend one another

grown_on : {a b c : List Place} → Grows a b → Grows b c → Grows a c
grown_on {a} {b} {c} g h = record { more = g.more ++ h.more; is = h.is ∙ ap (λ ps. ps ++ h.more) g.is ∙ append_assoc a g.more h.more }

nothing_more : (ps : List Place) → ps ≡ ps ++ []
nothing_more [] = refl
nothing_more (p ∷ ps) = ap (λ xs. p ∷ xs) (nothing_more ps)

pub extends_itself : (t : Numbering) → Extends t t
extends_itself t = record {
  base = refl;
  values = record { more = []; is = nothing_more t.values };
  label_base = refl;
  labels = record { more = []; is = nothing_more t.labels };
}

pub extends_on : (t u v : Numbering) → Extends t u → Extends u v → Extends t v
extends_on t u v g h = record {
  base = h.base ∙ g.base;
  values = grown_on g.values h.values;
  label_base = h.label_base ∙ g.label_base;
  labels = grown_on g.labels h.labels;
}

more_by : (v : ValuePlace) (ks : List ValuePlace) (b : Bool) → Grows (map place_of ks) (map place_of (if b then ks else ks ++ v ∷ []))
more_by v ks true = record { more = []; is = nothing_more (map place_of ks) }
more_by v ks false = record { more = place_of v ∷ []; is = pushed ks }
  where
    pushed : (ks : List ValuePlace) → map place_of (ks ++ v ∷ []) ≡ map place_of ks ++ place_of v ∷ []
    pushed [] = refl
    pushed (k ∷ ks) = ap (λ xs. place_of k ∷ xs) (pushed ks)

-- a place that is put at the end makes a table that extends the old one
pub grown_by : (old new : List ValuePlace) (v : ValuePlace) → new ≡ insert_key equal old v → Grows (map place_of old) (map place_of new)
grown_by old new v put = let g = more_by v old (list_any (equal v) old) in record { more = g.more; is = ap (map place_of) put ∙ g.is }
