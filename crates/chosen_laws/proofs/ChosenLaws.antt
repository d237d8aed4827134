-- Of a table of sound rows each chosen derivation is sound.
use Rattle.std.proofs.Common.{◌≡◌, ℕ, zero, suc, ◌+◌, ◌==◌, Bool, true, false, List, [], ◌∷◌, ◌++◌, Option, Some, None, length, map, refl, sym, ap, ◌∙◌, subst, arith, append_assoc, append-nil, true≢false, replicate}
use Rattle.std.specs.Prelude.{slice_get, ◌||◌, if◌then◌else◌}
use Rattle.std.specs.List.{list_any}
use Rattle.std.proofs.lemmas.Slice.Eq.{bytes_eq-Decides}
use Rattle.plain_tree.specs.Types.{PlainType}
use Rattle.operation_model.specs.Values.{Value, Unset}
use Rattle.operation_model.specs.Doings.{Doing}
use Rattle.conversion_model.specs.declared.templates.Source.TheVariants.{Operand, Made}
use Rattle.conversion_model.specs.Templates.{Template}
use Rattle.conversion_model.specs.Targets.{Shape, Target, is_legal}
use Rattle.conversion_model.specs.Rows.{Row, Straight, Cutting, Framing, Pattern}
use Rattle.conversion_model.specs.Chosen.{Leaves, Ranked, State, by_first, by_row, by_template, change_of, chosen_within, counted, give_results, goes_before, has_root, here, in_order, itself, or_else, order, places, products, put_in, ranked}
use Rattle.sound_model.specs.Refinement.{Refines}
use Rattle.sound_model.specs.Runs.{if_there, items_of, labels_in, root_form, root_runs, template_runs, types_made}
use Rattle.sound_model.specs.Soundness.{FitIfRoot, IsFit, IsReplaceable, PatternSound, PatternsSound, RowHolds, RowSound, RowsSound, Sound, all_changed, is_root}
use Rattle.sound_model.proofs.Refining.{refines_same, refines_trans}
use Rattle.chosen_laws.proofs.Lists.{and_both, get_behind, none_some, some_same}
use Rattle.chosen_laws.proofs.Derivations.{Knows, here_items, length_joined, mapped_count, on_there, parts, products_run, products_types, rest_runs, runs_refine, there}
use Rattle.chosen_laws.proofs.Casts.{Changes, begun, cast_step, give_runs, give_types, take_holds}
use Rattle.chosen_laws.proofs.CastForms.{changes_move}
use Rattle.chosen_laws.specs.Promises.{ChosenSound}

as_many : {A : Type 0} (a : A) (n : ℕ) → length (replicate n a) ≡ n
as_many a zero = refl
as_many a (suc n) = ap suc (as_many a n)

-- By a template: casts, leaves, casts
module _ (bits : ℕ) (table : List Pattern) (leaves : Leaves) (leaves_sound : (o : Shape) (t : Template) → FitIfRoot table o → leaves o ≡ Some t → Sound bits o t)
    (change : PlainType → Option PlainType) (changes : Changes bits change) (o : Shape) (t whole : Template) (holds : RowHolds bits table change o t) where
  abbrev ending : State → Option Template
  ending s = products leaves (λ z. Some (give_results change o.results (map (here z) t.results) z.count)) t.steps s

  template_does : (args : List Value) (labels : List ℕ) (next : List Value → Doing) → length args ≡ length o.operands
      → by_template change leaves o t ≡ Some whole
      → Refines (template_runs bits (all_changed change o.operands) args labels t next) (template_runs bits o.operands args labels whole next)
  template_does args labels next count is =
      take_holds bits o.operands args labels change changes
      (λ ts vs rest. Refines (template_runs bits (all_changed change o.operands) args labels t next) (rest_runs bits o.operands args labels ts vs rest next)) ending
      (λ k x u a rest ts vs changed e f same.
      subst (Refines (template_runs bits (all_changed change o.operands) args labels t next))
      (sym (cast_step bits o.operands args labels (Operand k) x u a rest.steps ts vs (λ made. if_there (items_of args made rest.results) next) (changes.forth x u changed) e f)) same)
      (λ sources n rest ts vs e f ts_count vs_count rest_is.
      products_run bits o.operands args labels table leaves leaves_sound (λ z. Some (give_results change o.results (map (here z) t.results) z.count)) args
      (λ made. if_there (items_of args made t.results) next) next (all_changed change o.operands) (types_made t.steps)
      (λ s rest ts vs made ops all_is types_known known rest_is. on_there (items_of args made t.results) next _ (λ results results_is.
      gives s rest ts vs made results ops all_is types_known known results_is (some_same rest_is)))
      t.steps (begun bits o.operands args labels change changes sources (all_changed change o.operands) n) rest ts vs [] refl refl holds.steps
      (record { operands_are = e; made_are = refl; count_is = ts_count }) (record { operands_are = f; made_are = refl; count_is = vs_count }) rest_is)
      o.operands [] args [] 0 [] 0 whole [] [] refl refl refl refl count refl refl refl refl is
    where
      gives : (s : State) (rest : Template) (ts : List PlainType) (vs made results : List Value)
          → s.operand_types ≡ all_changed change o.operands → s.made_types ≡ types_made t.steps → Knows o.operands ts s s.operand_types s.made_types → Knows args vs s args made
          → items_of args made t.results ≡ Some results → give_results change o.results (map (here s) t.results) s.count ≡ rest
          → Refines (next results) (rest_runs bits o.operands args labels ts vs rest next)
      gives s rest ts vs made results ops all_is types_known known results_is rest_is =
          let result_types : items_of s.operand_types s.made_types t.results ≡ Some (all_changed change o.results) =
          ap (λ us. items_of us s.made_types t.results) ops ∙ ap (λ us. items_of (all_changed change o.operands) us t.results) all_is ∙ holds.does.types in
          let g = give_runs bits o.operands args labels change changes o.results (map (here s) t.results) s.count ts vs results
          (here_items o.operands ts s s.operand_types s.made_types t.results (all_changed change o.results) types_known result_types)
          (here_items args vs s args made t.results results known results_is) types_known.count_is known.count_is in
          subst (λ z. Refines (next results) (rest_runs bits o.operands args labels ts vs z next)) rest_is
          (refines_same (sym (g.runs (λ all. if_there (items_of args all (give_results change o.results (map (here s) t.results) s.count).results) next) ∙ there next g.items)))

  template_types : by_template change leaves o t ≡ Some whole → items_of o.operands (types_made whole.steps) whole.results ≡ Some o.results
  template_types is =
      take_holds bits o.operands (replicate (length o.operands) Unset) [] change changes
      (λ ts vs rest. items_of o.operands (ts ++ types_made rest.steps) rest.results ≡ Some o.results) ending
      (λ k x u a rest ts vs changed e f same. subst (λ zs. items_of o.operands zs rest.results ≡ Some o.results) (append_assoc ts (u ∷ []) (types_made rest.steps)) same)
      (λ sources n rest ts vs e f ts_count vs_count rest_is.
      products_types bits o.operands table leaves leaves_sound (λ z. Some (give_results change o.results (map (here z) t.results) z.count)) (all_changed change o.operands) (types_made t.steps) o.results
      (λ s rest ts ops all_is known rest_is. subst (λ z. items_of o.operands (ts ++ types_made z.steps) z.results ≡ Some o.results) (some_same rest_is)
      (give_types change o.operands o.results (map (here s) t.results) s.count ts
      (here_items o.operands ts s s.operand_types s.made_types t.results (all_changed change o.results) known
      (ap (λ us. items_of us s.made_types t.results) ops ∙ ap (λ us. items_of (all_changed change o.operands) us t.results) all_is ∙ holds.does.types)) known.count_is))
      t.steps (begun bits o.operands (replicate (length o.operands) Unset) [] change changes sources (all_changed change o.operands) n) rest ts refl refl holds.steps
      (record { operands_are = e; made_are = refl; count_is = ts_count }) rest_is)
      o.operands [] (replicate (length o.operands) Unset) [] 0 [] 0 whole [] [] refl refl refl refl (as_many Unset (length o.operands)) refl refl refl refl is

  pub by_template_sound : by_template change leaves o t ≡ Some whole → Sound bits o whole
  by_template_sound is = record {
    types = template_types is;
    same = λ args labels next count other places.
        refines_trans (root_runs bits o args labels next) (template_runs bits (all_changed change o.operands) args labels t next) (template_runs bits o.operands args labels whole next)
        (holds.does.same args labels next count (count ∙ sym (mapped_count _ o.operands)) places) (template_does args labels next count is);
  }

-- A legal operation is its own leaf

all_made : {A : Type 0} (operands front zs : List A) (k : ℕ) → length front ≡ k → items_of operands (front ++ zs) (map Made (places k zs)) ≡ Some zs
all_made operands front [] k count = refl
all_made operands front (z ∷ zs) k count =
    and_both (ap (slice_get (front ++ z ∷ zs)) (omega (arith, count)) ∙ get_behind front (z ∷ zs) 0)
    (ap (λ all. items_of operands all (map Made (places (k + 1) zs))) (sym (append_assoc front (z ∷ []) zs))
    ∙ all_made operands (front ++ z ∷ []) zs (k + 1) (length_joined front (z ∷ []) ∙ omega (arith, count)))

all_operands : {A : Type 0} (made front zs : List A) (k : ℕ) → length front ≡ k → items_of (front ++ zs) made (map Operand (places k zs)) ≡ Some zs
all_operands made front [] k count = refl
all_operands made front (z ∷ zs) k count =
    and_both (ap (slice_get (front ++ z ∷ zs)) (omega (arith, count)) ∙ get_behind front (z ∷ zs) 0)
    (ap (λ all. items_of all made (map Operand (places (k + 1) zs))) (sym (append_assoc front (z ∷ []) zs))
    ∙ all_operands made (front ++ z ∷ []) zs (k + 1) (length_joined front (z ∷ []) ∙ omega (arith, count)))

all_labels : (front ls : List ℕ) (k n : ℕ) → length front ≡ k → length ls ≡ n → labels_in (front ++ ls) (counted k n) ≡ Some ls
all_labels front [] k zero count is = refl
all_labels front [] k (suc n) count is = absurd (omega (arith, is))
all_labels front (l ∷ ls) k zero count is = absurd (omega (arith, is))
all_labels front (l ∷ ls) k (suc n) count is =
    and_both (ap (slice_get (front ++ l ∷ ls)) (omega (arith, count)) ∙ get_behind front (l ∷ ls) 0)
    (ap (λ all. labels_in all (counted (k + 1) n)) (sym (append_assoc front (l ∷ []) ls))
    ∙ all_labels (front ++ l ∷ []) ls (k + 1) n (length_joined front (l ∷ []) ∙ omega (arith, count)) (omega (arith, is)))

same_places : {A B : Type 0} (k : ℕ) (xs : List A) (ys : List B) → length xs ≡ length ys → places k xs ≡ places k ys
same_places k [] [] is = refl
same_places k [] (y ∷ ys) is = absurd (omega (arith, is))
same_places k (x ∷ xs) [] is = absurd (omega (arith, is))
same_places k (x ∷ xs) (y ∷ ys) is = ap (λ ps. k ∷ ps) (same_places (k + 1) xs ys (omega (arith, is)))

itself_sound : (bits : ℕ) (o : Shape) → Sound bits o (itself o)
itself_sound bits o = record {
  types = ap (λ ts. items_of o.operands ts (map Made (places 0 o.results))) (append-nil o.results) ∙ all_made o.operands [] o.results 0 refl;
  same = λ args labels next count other places_count. does_same args labels next count places_count;
}
  where
    does_same : (args : List Value) (labels : List ℕ) (next : List Value → Doing) → length args ≡ length o.operands → length labels ≡ o.successors
        → Refines (root_runs bits o args labels next) (template_runs bits o.operands args labels (itself o) next)
    does_same args labels next count places_count =
        subst (Refines (root_runs bits o args labels next))
        (sym (there _ (all_operands [] [] o.operands 0 refl)
        ∙ there _ (ap (λ ps. items_of args [] (map Operand ps)) (sym (same_places 0 args o.operands count)) ∙ all_operands [] [] args 0 refl)
        ∙ there _ (all_labels [] labels 0 o.successors refl places_count)))
        (runs_refine (root_form bits o) o.results labels args next _ (λ ys ys_count.
        refines_same (sym (there next (ap (λ ps. items_of args ys (map Made ps)) (sym (same_places 0 ys o.results ys_count)) ∙ all_made args [] ys 0 refl)))))

-- By the first pattern

-- P of each
abbrev EachOf : {A : Type 0} → (A → Type 0) → List A → Type 0
EachOf P [] = Unit {0}
EachOf P (x ∷ xs) = P x × EachOf P xs

-- a pattern that is sound, of that root
abbrev IsSoundAt : ℕ → List Pattern → List ℕ → Ranked → Type 0
IsSoundAt bits table name r = PatternSound bits table r.pattern × (name ≡ r.pattern.root) × (is_root table name ≡ true)

put_each : (P : Ranked → Type 0) (p : Ranked) (rs : List Ranked) → P p → EachOf P rs → EachOf P (put_in p rs)
put_each P p [] h each = (h, tt)
put_each P p (r ∷ rs) h each = go (goes_before r p) (put_each P p rs h each.1)
  where
    go : (b : Bool) → EachOf P (put_in p rs) → EachOf P (if b then r ∷ put_in p rs else p ∷ r ∷ rs)
    go true behind = (each.0, behind)
    go false behind = (h, each)

order_each : (P : Ranked → Type 0) (rs : List Ranked) → EachOf P rs → EachOf P (in_order rs)
order_each P [] each = tt
order_each P (r ∷ rs) each = put_each P r (in_order rs) each.0 (order_each P rs each.1)

or_true : (a b : Bool) → b ≡ true → (a || b) ≡ true
or_true true b is = refl
or_true false b is = is

true_or : (a b : Bool) → a ≡ true → (a || b) ≡ true
true_or true b is = refl
true_or false b is = absurd (true≢false (sym is))

ranked_each : (bits : ℕ) (table : List Pattern) (depth : Pattern → Option ℕ) (name : List ℕ) (place : ℕ) (ps : List Pattern) → PatternsSound bits table ps
    → (list_any (has_root name) ps ≡ true → is_root table name ≡ true) → EachOf (IsSoundAt bits table name) (ranked depth name place ps)
ranked_each bits table depth name place [] sound among = tt
ranked_each bits table depth name place (p ∷ ps) sound among =
    go (has_root name p) refl (ranked_each bits table depth name (place + 1) ps sound.1 (λ h. among (or_true (has_root name p) (list_any (has_root name) ps) h)))
  where
    go : (b : Bool) → has_root name p ≡ b → EachOf (IsSoundAt bits table name) (ranked depth name (place + 1) ps)
        → EachOf (IsSoundAt bits table name) (if b then record { pattern = p; place = place; depth = depth p } ∷ ranked depth name (place + 1) ps else ranked depth name (place + 1) ps)
    go true is behind =
        ((sound.0, sym ((bytes_eq-Decides p.root name).0 is), among (true_or (has_root name p) (list_any (has_root name) ps) is)), behind)
    go false is behind = behind

abbrev Holds : ℕ → Shape → Template → Type 0
Holds bits o t = Sound bits o t × IsReplaceable (root_form bits o) o.results

module _ (bits : ℕ) (table : List Pattern) where
  row_holds : (leaves : Leaves) → ((o : Shape) (t : Template) → FitIfRoot table o → leaves o ≡ Some t → Sound bits o t)
      → (name : List ℕ) (is_converted : Bool) (row : Row) (o : Shape) (t : Template) → FitIfRoot table o → is_root table o.name ≡ true
      → ((row1 : Shape → Option Template) → row ≡ Straight row1 → (u : Template) → row1 o ≡ Some u → RowHolds bits table (change_of bits is_converted) o u)
      → by_row bits is_converted leaves o row ≡ Some t → Holds bits o t
  row_holds leaves sound name is_converted (Straight row) o t fit among holds e =
      let p = parts (row o) _ t e in
      let h = holds row refl p.value p.is in
      (by_template_sound bits table leaves sound (change_of bits is_converted) (changes_move bits is_converted) o p.value t h p.rest, h.replaceable)
  row_holds leaves sound name is_converted (Cutting row) o t fit among holds e = absurd (none_some e)
  row_holds leaves sound name is_converted (Framing row) o t fit among holds e = absurd (none_some e)

  pattern_holds : (p : Pattern) (row : Row) → p.row bits ≡ row → PatternSound bits table p → (o : Shape) → o.name ≡ p.root → IsFit o
      → (row1 : Shape → Option Template) → row ≡ Straight row1 → (u : Template) → row1 o ≡ Some u → RowHolds bits table (change_of bits p.is_converted) o u
  pattern_holds p row is sound o name fit row1 row_is u e = subst (RowSound bits table p.root (change_of bits p.is_converted)) (is ∙ row_is) sound o u name fit e

  first_holds : (leaves : List ℕ → Leaves) → ((path : List ℕ) (o : Shape) (t : Template) → FitIfRoot table o → leaves path o ≡ Some t → Sound bits o t)
      → (path : List ℕ) (o : Shape) (t : Template) (rs : List Ranked) → FitIfRoot table o → EachOf (IsSoundAt bits table o.name) rs → by_first bits leaves path o rs ≡ Some t → Holds bits o t
  first_holds leaves sound path o t [] fit each e = absurd (none_some e)
  first_holds leaves sound path o t (r ∷ rs) fit each e =
      go (list_any (λ place. place == r.place) path) (by_row bits r.pattern.is_converted (leaves (r.place ∷ path)) o (r.pattern.row bits)) refl e (first_holds leaves sound path o t rs fit each.1)
    where
      go : (b : Bool) (x : Option Template) → by_row bits r.pattern.is_converted (leaves (r.place ∷ path)) o (r.pattern.row bits) ≡ x
          → (if b then by_first bits leaves path o rs else or_else x (by_first bits leaves path o rs)) ≡ Some t
          → (by_first bits leaves path o rs ≡ Some t → Holds bits o t) → Holds bits o t
      go true x is e behind = behind e
      go false None is e behind = behind e
      go false (Some u) is e behind =
          row_holds (leaves (r.place ∷ path)) (sound (r.place ∷ path)) o.name r.pattern.is_converted (r.pattern.row bits) o t fit each.0.2
          (pattern_holds r.pattern (r.pattern.row bits) refl each.0.0 o each.0.1 (fit each.0.2)) (is ∙ e)

  module _ (target : Target) (rows_sound : RowsSound bits table) where
    order_sound : (name : List ℕ) → EachOf (IsSoundAt bits table name) (order target table name)
    order_sound name = order_each (IsSoundAt bits table name) _ (ranked_each bits table _ name 0 table rows_sound (λ h. h))

    within_holds : (room : ℕ) (path : List ℕ) (o : Shape) (t : Template) → FitIfRoot table o → chosen_within bits target (order target table) room path o ≡ Some t
        → Sound bits o t × (is_legal target o ≡ false → IsReplaceable (root_form bits o) o.results)
    within_holds zero path o t fit e = absurd (none_some e)
    within_holds (suc room) path o t fit e = go (is_legal target o) refl e (first_holds (chosen_within bits target (order target table) room) (λ longer p u h is. (within_holds room longer p u h is).0) path o t (order target table o.name) fit (order_sound o.name))
      where
        go : (b : Bool) → is_legal target o ≡ b → (if b then Some (itself o) else by_first bits (chosen_within bits target (order target table) room) path o (order target table o.name)) ≡ Some t
            → (by_first bits (chosen_within bits target (order target table) room) path o (order target table o.name) ≡ Some t → Holds bits o t)
            → Sound bits o t × (is_legal target o ≡ false → IsReplaceable (root_form bits o) o.results)
        go true is e behind = (subst (Sound bits o) (some_same e) (itself_sound bits o), λ h. absurd (true≢false (sym is ∙ h)))
        go false is e behind = let h = behind e in (h.0, λ k. h.1)

pub chosen_sound : ChosenSound
chosen_sound bits target table sound path o t fit e = within_holds bits table target sound (suc (length table)) path o t fit (ap (λ n. chosen_within bits target (order target table) n path o) (one_more (length table)) ∙ e)
  where
    one_more : (n : ℕ) → suc n ≡ n + 1
    one_more n = omega arith
