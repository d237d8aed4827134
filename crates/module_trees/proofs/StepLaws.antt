-- One step more.
use Rattle.std.proofs.Common.{◌≡◌, ℕ, zero, suc, ◌+◌, ◌<◌, ◌≤◌, List, [], ◌∷◌, length, drop, get_or, map, reverse, refl, sym, ◌∙◌, ap, subst, arith, Option}
use Rattle.std.proofs.lemmas.List.{drop_all, drop_more}
use Rattle.text_grammar.specs.declared.places.Place.{Place}
use Rattle.text_grammar.specs.declared.places.Place.TheVariants as places
use Rattle.tree_model.specs.declared.type_tree.TypeTree.{TypeTree}
use Rattle.tree_model.specs.declared.op_tree.OpTree.{OpTree}
use Rattle.tree_model.specs.declared.op_tree.BlockTree.{BlockTree}
use Rattle.tree_model.specs.declared.op_tree.RegionTree.{RegionTree}
use Rattle.term_table.specs.declared.node.Node.{Node}
use Rattle.term_table.specs.Terms.{Term, term_at}
use Rattle.term_table.proofs.TableLaws.{zero_is}
use Rattle.text_types.specs.Stack.{Within}
use Rattle.event_trees.specs.Wording.{Wording}
use Rattle.event_trees.specs.Numbers.{left_at}
use Rattle.event_trees.specs.Levels as levels
use Rattle.event_trees.specs.Roles.{roles_of}
use Rattle.text_events.specs.declared.event.Event.{Event}
use Rattle.module_trees.specs.declared.meant.Next.{Next}
use Rattle.module_trees.specs.declared.levels.Parts.{Parts}
use Rattle.module_trees.specs.declared.levels.Level.{Level}
use Rattle.module_trees.specs.Left.{left_from}
use Rattle.module_trees.specs.Views.{AllWithin, PartsWithin, parts_of, level_of, role_of}

drop_one : {X : Type 0} (n : ℕ) (xs : List X) → drop (n + 1) xs ≡ drop 1 (drop n xs)
drop_one zero xs = refl
drop_one (suc n) [] = drop_all (suc n + 1) [] (omega arith) ∙ sym (ap (drop 1) (drop_all (suc n) [] (omega arith)))
drop_one (suc n) (x ∷ xs) = let e : suc n + 1 ≡ suc (n + 1) = omega arith in ap (λ m. drop m (x ∷ xs)) e ∙ drop_one n xs

pub value_passed : (values labels : List (Option ℕ)) (next : Next) (place : Place) → place ≡ places.UseName
    → left_from values labels (record { values = next.values + 1; labels = next.labels }) ≡ left_at place (left_from values labels next)
value_passed values labels next place e = rw e (ap (λ vs. record { values = vs; labels = drop next.labels labels }) (drop_one next.values values))

pub label_passed : (values labels : List (Option ℕ)) (next : Next) (place : Place) → place ≡ places.SuccessorName
    → left_from values labels (record { values = next.values; labels = next.labels + 1 }) ≡ left_at place (left_from values labels next)
label_passed values labels next place e = rw e (ap (λ ls. record { values = drop next.values values; labels = ls }) (drop_one next.labels labels))

pub within_at : (last : ℕ) (ns : List ℕ) (k : ℕ) → Within last ns → k < length ns → get_or ns k 0 ≤ last
within_at last [] k w h = absurd (omega (arith, h))
within_at last (n ∷ ns) zero w h = w.0
within_at last (n ∷ ns) (suc k) w h = within_at last ns k w.1 (omega (arith, h))

-- Levels

abbrev parts_with : List ℕ → List ℕ → Term → List RegionTree → Term → Term → levels.Parts
parts_with operands successors props regions attrs signature =
    record { operands = operands; successors = successors; props = props; regions = regions; attrs = attrs; signature = signature }

abbrev level_with : levels.Parts → List (ℕ × TypeTree) → List OpTree → List BlockTree → levels.Level
level_with parts args ops blocks = record { parts = parts; args = args; ops = ops; blocks = blocks }

pub no_parts_is : (nodes : List Node) (a b : List ℕ) (rs : List RegionTree) → a ≡ [] → b ≡ [] → rs ≡ []
    → parts_with (reverse a) (reverse b) (term_at nodes 0) (reverse rs) (term_at nodes 0) (term_at nodes 0) ≡ levels.no_parts
no_parts_is nodes a b rs e f g =
    ap (λ xs. parts_with (reverse xs) (reverse b) (term_at nodes 0) (reverse rs) (term_at nodes 0) (term_at nodes 0)) e
    ∙ ap (λ xs. parts_with [] (reverse xs) (term_at nodes 0) (reverse rs) (term_at nodes 0) (term_at nodes 0)) f
    ∙ ap (λ xs. parts_with [] [] (term_at nodes 0) (reverse xs) (term_at nodes 0) (term_at nodes 0)) g
    ∙ ap (λ t. parts_with [] [] t [] t t) (zero_is nodes)

pub op_put : (nodes : List Node) (words : Wording) (name number : ℕ) (level : Level) (parts : Parts) (ops : List OpTree) (o : OpTree) → parts_of nodes parts ≡ levels.no_parts
    → reverse ops ≡ o ∷ reverse level.ops.items → o ≡ levels.op_named words name number (parts_of nodes level.parts)
    → level_with (parts_of nodes parts) (reverse level.args.items) (reverse ops) (reverse level.blocks.items) ≡ levels.with_op words name number (level_of nodes level)
op_put nodes words name number level parts ops o none put is =
    ap (λ p. level_with p (reverse level.args.items) (reverse ops) (reverse level.blocks.items)) none
    ∙ ap (λ os. level_with levels.no_parts (reverse level.args.items) os (reverse level.blocks.items)) (put ∙ ap (λ x. x ∷ reverse level.ops.items) is)

pub region_put : (nodes : List Node) (outer : Level) (rs : List RegionTree) (r t : RegionTree) → reverse rs ≡ r ∷ reverse outer.parts.regions.items → r ≡ t
    → level_with (parts_with (reverse outer.parts.operands.items) (reverse outer.parts.successors.items) (term_at nodes outer.parts.props) (reverse rs) (term_at nodes outer.parts.attrs) (term_at nodes outer.parts.signature))
    (reverse outer.args.items) (reverse outer.ops.items) (reverse outer.blocks.items)
    ≡ levels.with_region t (level_of nodes outer)
region_put nodes outer rs r t put same =
    ap (λ all. level_with (parts_with (reverse outer.parts.operands.items) (reverse outer.parts.successors.items) (term_at nodes outer.parts.props) all (term_at nodes outer.parts.attrs) (term_at nodes outer.parts.signature))
    (reverse outer.args.items) (reverse outer.ops.items) (reverse outer.blocks.items))
    (put ∙ ap (λ x. x ∷ reverse outer.parts.regions.items) same)

pub put_within : (last : ℕ) (old new : List Level) (l : Level) → AllWithin last old → PartsWithin last l.parts → new ≡ l ∷ old → AllWithin last new
put_within last old new l all here put = let P : List Level → Type 0 = AllWithin last in subst P (sym put) (here, all)

pub close_within : (last : ℕ) (old new rest : List Level) (inner outer made : Level) → AllWithin last old → old ≡ inner ∷ outer ∷ rest → new ≡ made ∷ rest
    → (PartsWithin last outer.parts → PartsWithin last made.parts) → AllWithin last new
close_within last old new rest inner outer made all was put keeps =
    let P : List Level → Type 0 = AllWithin last in
    let within : AllWithin last (inner ∷ outer ∷ rest) = subst P was all in
    subst P (sym put) (keeps within.1.0, within.1.1)

-- Roles

pub none_behind : (nodes : List Node) (words : Wording) (es : List Event) (ms : List ℕ) (ts : List Term) (all : List Level) (e : Level) → all ≡ e ∷ [] → level_of nodes e ≡ levels.empty
    → map (level_of nodes) all ≡ levels.levels_of words (roles_of (drop (length es) es) ms ts)
none_behind nodes words es ms ts all e put is =
    ap (map (level_of nodes)) put ∙ ap (λ l. l ∷ []) is ∙ sym (ap (λ xs. levels.levels_of words (roles_of xs ms ts)) (drop_all (length es) es (omega arith)))

pub roles_step : (nodes : List Node) (es : List Event) (ms bs : List ℕ) (d : Event) (n i : ℕ) → i + 1 ≡ n → n ≤ length es → length es ≡ length ms → length es ≡ length bs
    → roles_of (drop i es) (drop i ms) (map (term_at nodes) (drop i bs))
    ≡ role_of nodes (record { place = (get_or es i d).place; name = (get_or es i d).name; number = get_or ms i 0; term = get_or bs i 0 })
    ∷ roles_of (drop n es) (drop n ms) (map (term_at nodes) (drop n bs))
roles_step nodes es ms bs d n i step bound a b =
    rw (drop_more es i d (omega (arith, step, bound)), drop_more ms i 0 (omega (arith, step, bound, a)), drop_more bs i 0 (omega (arith, step, bound, b)), step) refl
