-- A template that is written down defines no number twice.
use Rattle.std.proofs.Common.{◌≡◌, ℕ, zero, suc, ◌+◌, ◌==◌, ◌≤◌, ◌<◌, Bool, true, false, List, [], ◌∷◌, refl, sym, ap, ◌∙◌, subst, length, arith, true≢false}
use Rattle.std.specs.Prelude.{◌||◌, if◌then◌else◌}
use Rattle.std.proofs.lemmas.Bool.{eqb-true}
use Rattle.plain_tree.specs.Types.{PlainType}
use Rattle.plain_tree.specs.Ops.{Op, Values}
use Rattle.conversion_model.specs.declared.templates.Source.{Source}
use Rattle.conversion_model.specs.declared.templates.Source.TheVariants.{Operand, Made}
use Rattle.conversion_model.specs.Templates.{Step, copies, copy, named, number_of, numbers, steps_written, values_made}
use Rattle.conversion_model.specs.Chosen.{made_by}
use Rattle.conversion_model.specs.Counts.{hits, list_count, named_count, values_count, WrittenOnce}
use Rattle.conversion_model.proofs.ReconcileLaws.{same_number}

-- Steps

zero_front : (k : ℕ) → 0 + k ≡ k
zero_front k = omega arith

suc_front : (a b : ℕ) → suc a + b ≡ suc (a + b)
suc_front a b = omega arith

shifted : (n a : ℕ) → n + 1 + a ≡ n + suc a
shifted n a = omega arith

behind_none : (n : ℕ) → n ≡ n + 0
behind_none n = omega arith

count_joined : (v : ℕ) (name : ℕ → ℕ) (n a b : ℕ) → named_count v name n (a + b) ≡ named_count v name n a + named_count v name (n + a) b
count_joined v name n zero b =
    omega (arith, ap (λ k. named_count v name n k) (zero_front b), ap (λ k. named_count v name k b) (behind_none n))
count_joined v name n (suc a) b =
    omega (arith, ap (λ k. named_count v name n k) (suc_front a b), count_joined v name (n + 1) a b, ap (λ k. named_count v name k b) (shifted n a))

made_count : (v : ℕ) (name : ℕ → ℕ) (n : ℕ) (ts : List PlainType) → values_count v (values_made name n ts) ≡ named_count v name n (length ts)
made_count v name n [] = refl
made_count v name n (t ∷ ts) = ap (λ k. hits v (name n) + k) (made_count v name (n + 1) ts)

steps_count : (v : ℕ) (name : ℕ → ℕ) (os ls : List ℕ) (n : ℕ) (steps : List Step) (more : List Op) → list_count v (steps_written name os ls n steps more) ≡ named_count v name n (made_by steps) + list_count v more
steps_count v name os ls n [] more = omega arith
steps_count v name os ls n (s ∷ steps) more =
    omega (arith, made_count v name n s.makes, steps_count v name os ls (n + length s.makes) steps more, count_joined v name n (length s.makes) (made_by steps))

-- Names that are not yet seen

abbrev unseen : ℕ → (ℕ → ℕ) → (ℕ → Bool) → ℕ → ℕ → ℕ
unseen v name seen n zero = 0
unseen v name seen n (suc room) = (if seen n then 0 else hits v (name n)) + unseen v name seen (n + 1) room

all_unseen : (v : ℕ) (name : ℕ → ℕ) (n room : ℕ) → unseen v name (λ k. false) n room ≡ named_count v name n room
all_unseen v name n zero = refl
all_unseen v name n (suc room) = ap (λ k. hits v (name n) + k) (all_unseen v name (n + 1) room)

one_new : (v : ℕ) (x y : ℕ) (b : Bool) → (b ≡ false → x ≡ y) → (if b then 0 else hits v x) ≤ hits v y
one_new v x y true same = omega arith
one_new v x y false same = subst (λ k. hits v x ≤ hits v k) (same refl) (le_same (hits v x))
  where
    le_same : (k : ℕ) → k ≤ k
    le_same k = omega arith

all_new : (v : ℕ) (name new : ℕ → ℕ) (seen : ℕ → Bool) (n room : ℕ) → ((k : ℕ) → seen k ≡ false → name k ≡ new k) → unseen v name seen n room ≤ named_count v new n room
all_new v name new seen n zero same = omega arith
all_new v name new seen n (suc room) same = omega (arith, one_new v (name n) (new n) (seen n) (same n), all_new v name new seen (n + 1) room same)

differs : (j n : ℕ) (b : Bool) → (j == n) ≡ b → j < n → b ≡ false
differs j n true is less = absurd (omega (arith, less, eqb-true j n is))
differs j n false is less = refl

or_is : (a b : Bool) → b ≡ false → (a || b) ≡ a
or_is true b none = refl
or_is false b none = none

-- behind the j-th nothing more is seen
seen_above : (v : ℕ) (name : ℕ → ℕ) (seen : ℕ → Bool) (j n room : ℕ) → j < n → unseen v name seen n room ≡ unseen v name (λ k. seen k || (j == k)) n room
seen_above v name seen j n zero less = refl
seen_above v name seen j n (suc room) less =
    ap (λ b. (if b then 0 else hits v (name n)) + unseen v name seen (n + 1) room) (sym (or_is (seen n) (j == n) (differs j n (j == n) refl less)))
    ∙ ap (λ k. (if seen n || (j == n) then 0 else hits v (name n)) + k) (seen_above v name seen j (n + 1) room (omega (arith, less)))

-- one more that is seen is one name less
seen_by : (v : ℕ) (name : ℕ → ℕ) (seen : ℕ → Bool) (j n room : ℕ) (a b : Bool) → (j == n) ≡ b
    → unseen v name seen (n + 1) room ≤ hits v (name j) + unseen v name (λ k. seen k || (j == k)) (n + 1) room
    → (if a then 0 else hits v (name n)) + unseen v name seen (n + 1) room ≤ hits v (name j) + ((if a || b then 0 else hits v (name n)) + unseen v name (λ k. seen k || (j == k)) (n + 1) room)
seen_by v name seen j n room true b is rest = omega (arith, rest)
seen_by v name seen j n room false true is rest =
    omega (arith, seen_above v name seen j (n + 1) room (omega (arith, eqb-true j n is)), ap (λ k. hits v (name k)) (eqb-true j n is))
seen_by v name seen j n room false false is rest = omega (arith, rest)

one_seen : (v : ℕ) (name : ℕ → ℕ) (seen : ℕ → Bool) (j n room : ℕ) → unseen v name seen n room ≤ hits v (name j) + unseen v name (λ k. seen k || (j == k)) n room
one_seen v name seen j n zero = omega arith
one_seen v name seen j n (suc room) = seen_by v name seen j n room (seen n) (j == n) refl (one_seen v name seen j (n + 1) room)

-- Copies

copy_by : (v : ℕ) (r : ℕ × PlainType) (value : ℕ) (os : List Op) (b : Bool) → list_count v (if b then os else copy r value ∷ os) ≤ hits v r.0 + list_count v os
copy_by v r value os true = omega arith
copy_by v r value os false = omega arith

no_copy : (v : ℕ) (r : ℕ × PlainType) (value : ℕ) (os : List Op) (b : Bool) → b ≡ true → list_count v (if b then os else copy r value ∷ os) ≡ list_count v os
no_copy v r value os true is = refl
no_copy v r value os false is = absurd (true≢false (sym is))

false_of_or : (a b : Bool) → (a || b) ≡ false → (a ≡ false) × (b ≡ false)
false_of_or true b is = absurd (true≢false is)
false_of_or false b is = (refl, is)

-- Of the results from here on: what the names that aren't seen and the copies define
bound : (v : ℕ) (new name : ℕ → ℕ) (operands : List ℕ) (room : ℕ) (results : Values) (sources : List Source) (seen : ℕ → Bool)
    → ((k : ℕ) → seen k ≡ false → name k ≡ named new (numbers results) sources k)
    → unseen v name seen 0 room + list_count v (copies name operands results sources []) ≤ values_count v results + named_count v new 0 room
bound v new name operands room [] sources seen same = omega (arith, all_new v name new seen 0 room same)
bound v new name operands room (r ∷ rs) [] seen same = omega (arith, all_new v name new seen 0 room same)
bound v new name operands room (r ∷ rs) (Operand j ∷ sources) seen same =
    omega (
      arith,
      bound v new name operands room rs sources seen same,
      copy_by v r (number_of name operands (Operand j)) (copies name operands rs sources []) (number_of name operands (Operand j) == r.0),
    )
bound v new name operands room (r ∷ rs) (Made j ∷ sources) seen same = by_seen (seen j) refl
    (λ later. bound v new name operands room rs sources seen later) (λ later. bound v new name operands room rs sources (λ k. seen k || (j == k)) later)
  where
    elsewhere : (k : ℕ) (b : Bool) → (j == k) ≡ b → b ≡ false → name k ≡ (if b then r.0 else named new (numbers rs) sources k) → name k ≡ named new (numbers rs) sources k
    elsewhere k true is none e = absurd (true≢false none)
    elsewhere k false is none e = e

    not_j : (k : ℕ) (b : Bool) → (j == k) ≡ b → seen j ≡ true → seen k ≡ false → b ≡ false
    not_j k true is before none = absurd (true≢false (sym before ∙ ap seen (eqb-true j k is) ∙ none))
    not_j k false is before none = refl

    by_seen : (b : Bool) → seen j ≡ b
        → (((k : ℕ) → seen k ≡ false → name k ≡ named new (numbers rs) sources k) → unseen v name seen 0 room + list_count v (copies name operands rs sources []) ≤ values_count v rs + named_count v new 0 room)
        → (((k : ℕ) → (seen k || (j == k)) ≡ false → name k ≡ named new (numbers rs) sources k) → unseen v name (λ k. seen k || (j == k)) 0 room + list_count v (copies name operands rs sources []) ≤ values_count v rs + named_count v new 0 room)
        → unseen v name seen 0 room + list_count v (copies name operands (r ∷ rs) (Made j ∷ sources) []) ≤ values_count v (r ∷ rs) + named_count v new 0 room
    by_seen true is before after =
        omega (
          arith,
          before (λ k none. elsewhere k (j == k) refl (not_j k (j == k) refl is none) (same k none)),
          copy_by v r (name j) (copies name operands rs sources []) (name j == r.0),
        )
    by_seen false is before after =
        let here : name j ≡ r.0 = same j is ∙ ap (λ b. if b then r.0 else named new (numbers rs) sources j) (same_number j j refl) in
        omega (
          arith,
          after (λ k none. elsewhere k (j == k) refl (false_of_or (seen k) (j == k) none).1 (same k (false_of_or (seen k) (j == k) none).0)),
          no_copy v r (name j) (copies name operands rs sources []) (name j == r.0) (same_number (name j) r.0 here),
          one_seen v name seen j 0 room,
          ap (hits v) here,
        )

pub written_once : WrittenOnce
written_once v new results operands labels t =
    let name : ℕ → ℕ = named new (numbers results) t.results in
    omega (
      arith,
      steps_count v name operands labels 0 t.steps (copies name operands results t.results []),
      bound v new name operands (made_by t.steps) results t.results (λ k. false) (λ k none. refl),
      all_unseen v name 0 (made_by t.steps),
    )
