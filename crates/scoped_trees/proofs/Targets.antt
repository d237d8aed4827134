-- The successors in a function are the labels that its names know as targets.
use Rattle.std.proofs.Common.{◌≡◌, ℕ, ◌+◌, ◌||◌, Bool, true, false, List, [], ◌∷◌, refl, sym, ap, ◌∙◌}
use Rattle.std.specs.Prelude.{◌==◌}
use Rattle.std.specs.List.{list_all, list_any}
use Rattle.std.proofs.lemmas.Bool.{false≢true}
use Rattle.std.proofs.lemmas.List.{append-nil}
use Rattle.mlir_lex.proofs.Lengths.{and-both, eqb-refl}
use Rattle.plain_tree.specs.Types.{type_tree}
use Rattle.plain_tree.specs.Ops.{Op, op, Ops, end_of_ops, more_ops, Regions, end_of_regions, region, Blocks, end_of_blocks, block, Values, op_tree, values_tree}
use Rattle.text_model.specs.PrintedPlaces.{Place, block_at, group_at, places_of_op, single_at, successor_at}
use Rattle.text_model.specs.PrintedNames.{Names, names_along, names_label}
use Rattle.printed_modules.specs.ModuleWords.{own_names}
use Rattle.named_trees.proofs.PlaceLists.{arg_at, args_front, blocks_front, op_front, ops_front, places_are, regions_front, results_front, successors_front}

-- each successor, of it and of all in it, is a target
abbrev mutual
  pub OpTargets : Names → Op → Type 0
  OpTargets n (op k results operands regions successors) = (list_all n.is_target successors ≡ true) × RegionsTarget n regions

  pub OpsTarget : Names → Ops → Type 0
  OpsTarget n end_of_ops = Unit {0}
  OpsTarget n (more_ops o os) = OpTargets n o × OpsTarget n os

  pub RegionsTarget : Names → Regions → Type 0
  RegionsTarget n end_of_regions = Unit {0}
  RegionsTarget n (region blocks more) = BlocksTarget n blocks × RegionsTarget n more

  pub BlocksTarget : Names → Blocks → Type 0
  BlocksTarget n end_of_blocks = Unit {0}
  BlocksTarget n (block label args ops more) = OpsTarget n ops × BlocksTarget n more

or_left : (a b : Bool) → a ≡ true → (a || b) ≡ true
or_left true b h = refl
or_left false b h = absurd (false≢true h)

or_right : (a b : Bool) → b ≡ true → (a || b) ≡ true
or_right true b h = refl
or_right false b h = h

module _ (P : List Place) where
  abbrev names : Names
  names = names_along P

  -- what these places name is named in the function
  abbrev Within : List Place → Type 0
  Within ps = (l : ℕ) → list_any (names_label l) ps ≡ true → names.is_target l ≡ true

  later : (p : Place) (ps : List Place) → Within (p ∷ ps) → Within ps
  later p ps w = λ l h. w l (or_right (names_label l p) (list_any (names_label l) ps) h)

  results_later : (vs : Values) (rest : List Place) → Within (results_front vs rest) → Within rest
  results_later [] rest w = w
  results_later (v ∷ []) rest w = later (single_at (v.0, type_tree v.1)) rest w
  results_later (v ∷ u ∷ vs) rest w = later (group_at (values_tree (v ∷ u ∷ vs))) rest w

  record Successors (ls : List ℕ) (rest : List Place) : Type 0 where
    targets : list_all names.is_target ls ≡ true
    within : Within rest

  successors_told : (ls : List ℕ) (rest : List Place) → Within (successors_front ls rest) → Successors ls rest
  successors_told [] rest w = record { targets = refl; within = w }
  successors_told (l ∷ ls) rest w =
      let more = successors_told ls rest (later (successor_at l) (successors_front ls rest) w) in
      record { targets = and-both _ _ (w l (or_left (l == l) (list_any (names_label l) (successors_front ls rest)) (eqb-refl l))) more.targets; within = more.within }

  args_later : (k : ℕ) (vs : Values) (rest : List Place) → Within (args_front k vs rest) → Within rest
  args_later k [] rest w = w
  args_later k (v ∷ vs) rest w = args_later k vs rest (later (arg_at k (v.0, type_tree v.1)) (args_front k vs rest) w)

  mutual
    op_told : (o : Op) (rest : List Place) → Within (op_front o rest) → OpTargets names o × Within rest
    op_told (op k results operands regions successors) rest w =
        let s = successors_told successors (regions_front regions rest) (results_later results (successors_front successors (regions_front regions rest)) w) in
        let m = regions_told regions rest s.within in
        ((s.targets, m.0), m.1)

    ops_told : (os : Ops) (rest : List Place) → Within (ops_front os rest) → OpsTarget names os × Within rest
    ops_told end_of_ops rest w = (tt, w)
    ops_told (more_ops o os) rest w =
        let one = op_told o (ops_front os rest) w in
        let more = ops_told os rest one.1 in
        ((one.0, more.0), more.1)

    regions_told : (rs : Regions) (rest : List Place) → Within (regions_front rs rest) → RegionsTarget names rs × Within rest
    regions_told end_of_regions rest w = (tt, w)
    regions_told (region blocks rs) rest w =
        let one = blocks_told 0 blocks (regions_front rs rest) w in
        let more = regions_told rs rest one.1 in
        ((one.0, more.0), more.1)

    blocks_told : (k : ℕ) (bs : Blocks) (rest : List Place) → Within (blocks_front k bs rest) → BlocksTarget names bs × Within rest
    blocks_told k end_of_blocks rest w = (tt, w)
    blocks_told k (block label args ops more) rest w =
        let a = args_later k args (ops_front ops (blocks_front (k + 1) more rest)) (later (block_at k label) (args_front k args (ops_front ops (blocks_front (k + 1) more rest))) w) in
        let o = ops_told ops (blocks_front (k + 1) more rest) a in
        let m = blocks_told (k + 1) more rest o.1 in
        ((o.0, m.0), m.1)

pub targets_told : (f : Op) → OpTargets (own_names f) f
targets_told f = (op_told (places_of_op (op_tree f)) f [] (λ l h. ap (list_any (names_label l)) (sym (append-nil (places_of_op (op_tree f))) ∙ places_are f []) ∙ h)).0
