-- Lines that operations of a shape share.
use Rattle.std.proofs.Common.{◌≡◌, ℕ, zero, suc, ◌+◌, ◌<◌, ◌≤◌, false, List, [], ◌∷◌, ◌++◌, get_or, length, map, take, Some, refl, sym, ap, subst, ◌∙◌, arith}
use Rattle.std.specs.Prelude.{Option, None, IfSome, slice_get}
use Rattle.std.specs.declared.alloc.Global.{Global}
use Rattle.std.specs.declared.rc.Rc.{Rc}
use Rattle.std.proofs.lemmas.List.{take_more}
use Rattle.plain_tree.specs.Types.{PlainType}
use Rattle.plain_tree.specs.Ops.{Op}
use Rattle.conversion_model.specs.declared.templates.TemplateTree.{TemplateTree}
use Rattle.conversion_model.specs.Choice.{Line}
use Rattle.conversion_model.specs.Chosen.{Ranked, chosen, order}
use Rattle.conversion_model.specs.Conversion.{Pass, Supply}
use Rattle.conversion_model.specs.Rows.{Pattern}
use Rattle.conversion_model.specs.Targets.{Mode, Shape, Target, is_legal, shape_of}
use Rattle.conversion_model.specs.Templates.{Template}
use Rattle.row_code.specs.Shapes as trees
use Rattle.choice_code.specs.Choosing.{by_row_at}
use Rattle.choice_code.specs.Plain.{plain_or_none, plain_template}
use Rattle.unit_slots.specs.declared.slots.Slot.TheVariants as slots
use Rattle.unit_choices.specs.declared.choice_tree.ChoiceTree.TheVariants as found
use Rattle.unit_choices.specs.declared.memo.ShapeLine.{ShapeLine}
use Rattle.unit_choices.specs.Memos.{Becomes, LineOf, Remembers}
use Rattle.unit_choices.specs.Separate.{Separate}
use Rattle.unit_choices.specs.Slotting.{SlotIs}
use Rattle.unit_choices.proofs.KindLaws.{at_line, by_hit, places_say}
use Rattle.unit_choices.proofs.SlotLaws.{slot_is}

-- Types one after another

map_snoc : {A B : Type 0} (f : A → B) (xs : List A) (x : A) → map f (xs ++ x ∷ []) ≡ map f xs ++ f x ∷ []
map_snoc f [] x = refl
map_snoc f (y ∷ xs) x = ap (λ zs. f y ∷ zs) (map_snoc f xs x)

one_more : {A B : Type 0} (f : A → B) (xs : List A) (i : ℕ) (d : A) → i < length xs → map f (take (i + 1) xs) ≡ map f (take i xs) ++ f (get_or xs i d) ∷ []
one_more f xs i d h = ap (map f) (take_more xs i d h) ∙ map_snoc f (take i xs) (get_or xs i d)

pub more_fit : {A B C : Type 0} (f : A → C) (g : B → C) (xs : List A) (ys : List B) (i : ℕ) (d : A) (e : B) → i < length xs → length xs ≡ length ys → f (get_or xs i d) ≡ g (get_or ys i e)
    → map f (take i xs) ≡ map g (take i ys) → map f (take (i + 1) xs) ≡ map g (take (i + 1) ys)
more_fit f g xs ys i d e h many same before =
    one_more f xs i d h ∙ ap (λ zs. zs ++ f (get_or xs i d) ∷ []) before ∙ ap (λ z. map g (take i ys) ++ z ∷ []) same ∙ sym (one_more g ys i e (omega (arith, h, many)))

whole : {A : Type 0} (xs : List A) (i : ℕ) → length xs ≤ i → take i xs ≡ xs
whole [] zero h = refl
whole [] (suc i) h = refl
whole (x ∷ xs) zero h = absurd (omega (arith, h))
whole (x ∷ xs) (suc i) h = ap (λ ys. x ∷ ys) (whole xs i (omega (arith, h)))

pub all_fit : {A B C : Type 0} (f : A → C) (g : B → C) (xs : List A) (ys : List B) (i : ℕ) → length xs ≤ i → length xs ≡ length ys → map f (take i xs) ≡ map g (take i ys) → map f xs ≡ map g ys
all_fit f g xs ys i h many e = sym (ap (map f) (whole xs i h)) ∙ e ∙ ap (map g) (whole ys i (omega (arith, h, many)))

-- Memos

module _ (bits : ℕ) (target : Target) (table : List Pattern) (mode : Mode) where
  -- what is remembered of a shape
  pub line_known : (ks : List ShapeLine) (i : ℕ) (k : ShapeLine) (s : Shape) → i < length ks → k ≡ get_or ks i k → trees.shape_of k.shape ≡ s → Remembers bits target table mode ks
      → LineOf bits target table mode s (plain_template k.line.value)
  line_known [] i k s h is same all = absurd (omega (arith, h))
  line_known (q ∷ ks) zero k s h is same all =
      subst (λ (x : Shape). LineOf bits target table mode x (plain_template k.line.value)) same
      (subst (λ (x : ShapeLine). LineOf bits target table mode (trees.shape_of x.shape) (plain_template x.line.value)) (sym is) all.0)
  line_known (q ∷ ks) (suc i) k s h is same all = line_known ks i k s (omega (arith, h)) is same all.1

  pub remembers_more : (ks more : List ShapeLine) (k : ShapeLine) → more ≡ ks ++ k ∷ [] → LineOf bits target table mode (trees.shape_of k.shape) (plain_template k.line.value) → Remembers bits target table mode ks
      → Remembers bits target table mode more
  remembers_more ks more k is one all = subst (Remembers bits target table mode) (sym is) (put ks all)
    where
      put : (ks : List ShapeLine) → Remembers bits target table mode ks → Remembers bits target table mode (ks ++ k ∷ [])
      put [] all = (one, tt)
      put (q ∷ ks) all = (all.0, put ks all.1)

-- the first pattern in order gives a line: then it is the choice
first_becomes : (bits : ℕ) (target : Target) (table : List Pattern) (s : Shape) (places : List ℕ) (place : ℕ) (t : Template) → is_legal target s ≡ false → 0 < length places → place ≡ get_or places 0 place
    → places ≡ map (λ (r : Ranked). r.place) (order target table s.name) → Some t ≡ by_row_at bits (chosen bits target table (place ∷ [])) s (slice_get table place) → Becomes bits target table s t
first_becomes bits target table s places place t illegal some first ordered e = λ new type_of o seen.
    places_say bits target table new type_of o s places (Some (Line t)) seen illegal ordered
    (by_hit bits table (chosen bits target table) new type_of o places 0 place (Line t) some first
    (at_line bits (chosen bits target table) new type_of o place (slice_get table place) s t seen e))

first_at : (places : List ℕ) (d : ℕ) → 1 ≤ length places → get_or places 0 d ≡ get_or places 0 (get_or places 0 d)
first_at [] d h = absurd (omega (arith, h))
first_at (p ∷ ps) d h = refl

pub first_says : (bits : ℕ) (target : Target) (table : List Pattern) (s : Shape) (places : List ℕ) (d : ℕ) (l : Option TemplateTree) → is_legal target s ≡ false → 1 ≤ length places
    → places ≡ map (λ (r : Ranked). r.place) (order target table s.name) → plain_or_none l ≡ by_row_at bits (chosen bits target table (get_or places 0 d ∷ [])) s (slice_get table (get_or places 0 d))
    → IfSome l (λ t. Becomes bits target table s (plain_template t))
first_says bits target table s places d None illegal some ordered e = tt
first_says bits target table s places d (Some t) illegal some ordered e =
    first_becomes bits target table s places (get_or places 0 d) (plain_template t) illegal (omega (arith, some)) (first_at places d some) ordered e

-- the slot of an operation whose shape has a line
pub line_is : (p : Pass) (bits : ℕ) (new : Supply) (type_of : ℕ → PlainType) (n : ℕ) (o : Op) (l : Rc TemplateTree Global) (s : Shape) (t : Template) → s ≡ shape_of type_of o → plain_template l.value ≡ t
    → LineOf bits p.target p.table p.mode s t → Separate (new.row n) type_of o → SlotIs p bits new type_of n o (Some (slots.Line l))
line_is p bits new type_of n o l s t seen same h apart =
    let own : LineOf bits p.target p.table p.mode (shape_of type_of o) (plain_template l.value) = subst (λ (x : Shape). LineOf bits p.target p.table p.mode x (plain_template l.value)) seen (subst (LineOf bits p.target p.table p.mode s) (sym same) h) in
    slot_is p bits new type_of n o (found.Line l.value) (slots.Line l) own.wanted (own.becomes (new.row n) type_of o refl) tt apart refl
