-- A use whose types are whole is among what its definition has.
use Rattle.std.proofs.Common.{◌≡◌, ℕ, zero, suc, ◌+◌, ◌<◌, Bool, true, false, List, [], ◌∷◌, length, drop, get_or, Option, Some, None, refl, sym, ap, ◌∙◌, subst, true≢false, arith}
use Rattle.std.specs.Prelude.{is_some, nat_le, if◌then◌else◌}
use Rattle.std.proofs.lemmas.List.{drop-drop}
use Rattle.text_grammar.specs.declared.places.Place.{Place}
use Rattle.text_grammar.specs.declared.places.Place.TheVariants as places
use Rattle.text_events.specs.declared.event.Event.{Event}
use Rattle.term_table.specs.Terms.{Term, node, nothing}
use Rattle.text_types.specs.Aliases.{is_nothing}
use Rattle.text_types.specs.Marks.{marked, marked_at}
use Rattle.text_kinds.specs.declared.found.Kind.{Kind}
use Rattle.text_kinds.specs.declared.found.Kind.TheVariants as kinds
use Rattle.use_kinds.specs.Same.{same_term}
use Rattle.use_kinds.specs.Clashes.{clash_at, fault_of, index_of, is_hash, later, named}
use Rattle.use_kinds.specs.Written.{no_operation, types_from}
use Rattle.event_trees.specs.Wording.{Wording}
use Rattle.event_trees.specs.Numbers.{index_at}
use Rattle.read_uses.specs.Laws.{IndexInRange}
use Rattle.read_uses.specs.Moved.{ends}

-- the index of a use is the same among the events with marks
pub index_marked : (index other : ℕ → ℕ) → ((n : ℕ) → index n ≡ other n) → (words : Wording) → words.index ≡ other → (es : List Event) → index_of index (marked es) ≡ index_at words es
index_marked index other same words is [] = refl
index_marked index other same words is (e ∷ es) = by_place e.place _ _
  where
    by_place : (p : Place) (b c : Bool) → (if is_hash (marked_at p b c) then index e.name else 0) ≡ elim p [ places.UseNumber ↦ words.index e.name | _ ↦ 0 ]
    by_place places.UseNumber b c = same e.name ∙ ap (λ (f : ℕ → ℕ). f e.name) (sym is)
    by_place places.ResultsOpen b true = refl
    by_place places.ResultsOpen b false = refl
    by_place places.ResultsClose true c = refl
    by_place places.ResultsClose false c = refl
    by_place _ b c = refl

later_none : (a b : Option ℕ) (k : Option Kind) → is_some a ≡ true → is_some b ≡ true → later a b k ≡ None → k ≡ None
later_none None b k h g e = absurd (true≢false (sym h))
later_none (Some a) None k h g e = absurd (true≢false (sym g))
later_none (Some a) (Some b) None h g e = refl
later_none (Some a) (Some b) (Some k) h g e = absurd cc

fault_same : (b c : Bool) → ◌≡◌ {A = Option Kind} (if b then Some kinds.ResultIndex else if c then None else Some kinds.UseType) None → c ≡ true
fault_same true c e = absurd cc
fault_same false true e = refl
fault_same false false e = absurd cc

in_range : (t : Term) (ts : List Term) (i : ℕ) → is_nothing t ≡ false → same_term t (get_or ts i nothing) ≡ true → i < length ts
in_range nothing ts i s h = absurd (true≢false s)
in_range (node f v l r) [] i s h = absurd (true≢false (sym (by_end i h)))
  where
    by_end : (i : ℕ) → same_term (node f v l r) (get_or [] i nothing) ≡ true → false ≡ true
    by_end i h = h
in_range (node f v l r) (t ∷ ts) zero s h = omega arith
in_range (node f v l r) (t ∷ ts) (suc i) s h = let deep : i < length ts = in_range (node f v l r) ts i s h in omega (arith, deep)

pub index_in_range : IndexInRange
index_in_range sp index aliases words class all numbers types x y d types_are m left whole_use whole_definition some =
    let u = length x.before in
    let clash : later (named sp index aliases (marked all) u).place (named sp index aliases (marked all) d).place (fault_of (named sp index aliases (marked all) u) (named sp index aliases (marked all) d)) ≡ None =
    sym (ap (clash_at sp index aliases (marked all) (length x.before)) left) ∙ m.agrees refl in
    let fault = later_none (named sp index aliases (marked all) u).place (named sp index aliases (marked all) d).place _ whole_use whole_definition clash in
    let same = fault_same (nat_le (named sp index aliases (marked all) d).count (named sp index aliases (marked all) u).index) _ fault in
    let behind : drop (u + 1) (marked all) ≡ ends sp index aliases words class all numbers types y = sym (drop-drop 1 u (marked all)) ∙ ap (drop 1) m.here in
    let range = in_range (get_or (get_or (types_from sp aliases no_operation (marked all)) u []) 0 nothing) (get_or (types_from sp aliases no_operation (marked all)) d []) (index_of index (drop (u + 1) (marked all)))
    (ap (λ ts. is_nothing (get_or (get_or ts (length x.before) []) 0 nothing)) (sym types_are) ∙ some) same in
    subst (λ (i : ℕ). i < length (get_or types d [])) (ap (index_of index) behind) (subst (λ (ts : List (List Term)). index_of index (drop (u + 1) (marked all)) < length (get_or ts d [])) (sym types_are) range)
