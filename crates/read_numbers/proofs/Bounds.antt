-- What refuses events stands at one of them.
use Rattle.std.proofs.Common.{◌≡◌, ◌⊎◌, inl, inr, ℕ, zero, suc, ◌+◌, ◌<◌, ◌≤◌, Bool, true, false, List, [], ◌∷◌, length, Option, Some, None, refl, sym, ap, ◌∙◌, true≢false, arith}
use Rattle.std.specs.Prelude.{cond, if◌then◌else◌}
use Rattle.line_grammar.specs.Language.{first_at, one_later}
use Rattle.text_grammar.specs.declared.places.Place.{Place}
use Rattle.text_grammar.specs.declared.places.Place.TheVariants as places
use Rattle.text_events.specs.declared.event.Event.{Event}
use Rattle.text_scopes.specs.declared.bodies.Class.{Class}
use Rattle.text_scopes.specs.Bodies.{is_module}
use Rattle.text_kinds.specs.declared.shape.Phase.{Phase}
use Rattle.text_kinds.specs.declared.shape.Phase.TheVariants as phases
use Rattle.text_kinds.specs.declared.shape.Shape.{Shape}
use Rattle.text_kinds.specs.Shapes.{decides, ends_wrong, header_behind, inside_behind, located_behind, named_behind, refused_from, region_behind, shape_behind, typed_behind}

same_number : (m n : ℕ) → Some m ≡ Some n → m ≡ n
same_number m n e = cc

-- A first place

later_place : (o : Option ℕ) (n : ℕ) → one_later o ≡ Some n → (m : ℕ) × (o ≡ Some m) × (n ≡ suc m)
later_place None n e = absurd cc
later_place (Some m) n e = (m, refl, sym (same_number (suc m) n e))

pub first_below : {S E : Type 0} (step : S → E → S) (stands : S → E → Bool) (s : S) (es : List E) (n : ℕ) → first_at step stands s es ≡ Some n → n < length es
first_below step stands s [] n e = absurd cc
first_below step stands s (x ∷ es) n e = by_test (stands s x) e (λ m h. first_below step stands (step s x) es m h)
  where
    by_test : (b : Bool) → ◌≡◌ {A = Option ℕ} (elim b [ true ↦ Some 0 | false ↦ one_later (first_at step stands (step s x) es) ]) (Some n)
        → ((m : ℕ) → first_at step stands (step s x) es ≡ Some m → m < length es) → n < suc (length es)
    by_test true h more = omega (arith, same_number 0 n h)
    by_test false h more = let (m, is, next) = later_place (first_at step stands (step s x) es) n h in omega (arith, more m is, next)

-- The place of a module's name

header_place : (s : Shape) (p : Place) → (header_behind s p).place ≡ s.place
header_place s places.UseName = refl
header_place s _ = refl

region_place : (s : Shape) (p : Place) → (region_behind s p).place ≡ s.place
region_place s places.RegionOpen = refl
region_place s _ = refl

inside_place : (s : Shape) (p : Place) → (inside_behind s p).place ≡ s.place
inside_place s places.RegionOpen = refl
inside_place s _ = refl

typed_place : (s : Shape) (p : Place) → (typed_behind s p).place ≡ s.place
typed_place s places.LocWord = refl
typed_place s _ = refl

located_place : (s : Shape) (p : Place) → (located_behind s p).place ≡ s.place
located_place s places.LocClose = refl
located_place s _ = refl

named_place : (s : Shape) (d : ℕ) (p : Place) → (named_behind (record s { depth = d }) p).place ≡ s.place
named_place s zero p = header_place (record s { depth = 0 }) p
named_place s (suc zero) p = region_place (record s { depth = 1 }) p
named_place s (suc (suc d)) p = inside_place (record s { depth = suc (suc d) }) p

-- before any operation it is the number of events so far, and from the name on it stays
abbrev Placed : Shape → ℕ → ℕ → Type 0
Placed s left total = (s.place + left ≤ total) × ((s.phase ≡ phases.Before) ⊎ (s.place < total))

stays_below : (s t : Shape) (left total : ℕ) → t.place ≡ s.place → s.place + suc left ≤ total → Placed t left total
stays_below s t left total e h = (omega (arith, e, h), inr (omega (arith, e, h)))

before_placed : (class : ℕ → Class) (s : Shape) (e : Event) (left total : ℕ) → s.place + suc left ≤ total → Placed (shape_behind class (record s { phase = phases.Before }) e) left total
before_placed class s e left total h = by_place e.place
  where
    named_so : (b : Bool) → Placed (cond b (record s { phase = phases.Named }) (record s { phase = phases.Other })) left total
    named_so true = stays_below s (record s { phase = phases.Named }) left total refl h
    named_so false = stays_below s (record s { phase = phases.Other }) left total refl h

    by_place : (p : Place) → Placed (shape_behind class (record s { phase = phases.Before }) (record { place = p; name = e.name })) left total
    by_place places.OpName = named_so (is_module (class e.name))
    by_place places.ResultName = (omega (arith, h), inl refl)
    by_place _ = (omega (arith, h), inl refl)

behind_placed : (class : ℕ → Class) (ph : Phase) (s : Shape) (e : Event) (left total : ℕ) → s.place + suc left ≤ total → Placed (shape_behind class (record s { phase = ph }) e) left total
behind_placed class phases.Before s e left total h = before_placed class s e left total h
behind_placed class phases.Named s e left total h = stays_below s (named_behind (record s { phase = phases.Named }) e.place) left total (named_place (record s { phase = phases.Named }) s.depth e.place) h
behind_placed class phases.Typed s e left total h = stays_below s (typed_behind (record s { phase = phases.Typed }) e.place) left total (typed_place (record s { phase = phases.Typed }) e.place) h
behind_placed class phases.Located s e left total h = stays_below s (located_behind (record s { phase = phases.Located }) e.place) left total (located_place (record s { phase = phases.Located }) e.place) h
behind_placed class phases.Behind s e left total h = stays_below s (record s { phase = phases.Behind }) left total refl h
behind_placed class phases.Other s e left total h = stays_below s (record s { phase = phases.Other }) left total refl h

-- where it is refused, it has a name
refused_here : (ph : Phase) (s : Shape) (p : Place) → decides (record s { phase = ph }) p ≡ true → ph ≡ phases.Before → ⊥
refused_here ph s p h e = true≢false (sym h ∙ ap (λ q. decides (record s { phase = q }) p) e)

ended_here : (ph : Phase) (s : Shape) → ends_wrong (record s { phase = ph }) ≡ true → ph ≡ phases.Before → ⊥
ended_here ph s h e = true≢false (sym h ∙ ap (λ q. ends_wrong (record s { phase = q })) e)

is_below : (s : Shape) (total n : ℕ) → (s.phase ≡ phases.Before → ⊥) → (s.phase ≡ phases.Before) ⊎ (s.place < total) → Some s.place ≡ Some n → n < total
is_below s total n never (inl e) h = absurd (never e)
is_below s total n never (inr less) h = omega (arith, less, same_number s.place n h)

refused_below : (class : ℕ → Class) (es : List Event) (s : Shape) (total n : ℕ) → Placed s (length es) total → refused_from class s es ≡ Some n → n < total
refused_below class [] s total n placed e = by_test (ends_wrong s) refl e
  where
    by_test : (b : Bool) → ends_wrong s ≡ b → (if b then Some s.place else None) ≡ Some n → n < total
    by_test true wrong h = is_below s total n (ended_here s.phase s wrong) placed.1 h
    by_test false wrong h = absurd cc
refused_below class (x ∷ es) s total n placed e =
    by_test (decides s x.place) refl e (refused_below class es (shape_behind class s x) total n (behind_placed class s.phase s x (length es) total placed.0))
  where
    by_test : (b : Bool) → decides s x.place ≡ b → (if b then Some s.place else refused_from class (shape_behind class s x) es) ≡ Some n
        → (refused_from class (shape_behind class s x) es ≡ Some n → n < total) → n < total
    by_test true decided h more = is_below s total n (refused_here s.phase s x.place decided) placed.1 h
    by_test false decided h more = more h

pub module_below : (class : ℕ → Class) (es : List Event) (n : ℕ) → Rattle.text_kinds.specs.Shapes.refused_module class es ≡ Some n → n < length es
module_below class es n e = refused_below class es Rattle.text_kinds.specs.Shapes.first_shape (length es) n (omega arith, inl refl) e
