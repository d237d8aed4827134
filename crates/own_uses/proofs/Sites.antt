-- Operations of a function by their numbers, and the first one that breaks the rule.
use Rattle.std.proofs.Common.{◌≡◌, ℕ, zero, suc, ◌+◌, ◌<◌, true, List, [], ◌∷◌, ◌++◌, map, length, Option, Some, None, refl, sym, ap, subst, arith}
use Rattle.std.specs.Prelude.{◌↔◌}
use Rattle.std.proofs.lemmas.List.{length-map}
use Rattle.plain_tree.specs.Types.{PlainType}
use Rattle.plain_tree.specs.Ops.{Op, op, Ops, end_of_ops, more_ops, Regions, end_of_regions, region, Blocks, end_of_blocks, block}
use Rattle.plain_tree.specs.Values.{types_of}
use Rattle.rule_model.specs.Words.{AllOf, AnyOf, numbers, results_of}
use Rattle.rule_model.specs.Chains.{Chain}
use Rattle.rule_model.specs.Facts.{Holder}
use Rattle.first_places.specs.Numbering.{is_numbered_once}
use Rattle.rule_model.specs.Sites.{Around, blocks_sites, frame_of, holds, op_sites, ops_sites, regions_sites, Site, sites}
use Rattle.rule_model.specs.Paths.{Frame}
use Rattle.first_places.specs.First.{FirstAt, IsFirst}
use Rattle.first_places.proofs.Once.{numbered_once}
use Rattle.own_uses.specs.Flat.{blocks_all, graph, maker_in, op_all, ops_all, regions_all, row_of}
use Rattle.own_uses.specs.Own.{UsesItself}
use Rattle.own_uses.specs.Ranks.{FirstOnCycle, OnCycle}
use Rattle.own_uses.proofs.Chains.{own_cycle}
use Rattle.own_uses.proofs.Makers.{nth, results_once}

-- The results are the same

abbrev results_at : List Site → List (List ℕ)
results_at ss = map (λ s. s.results) ss

mutual
  op_same : (type_of : ℕ → PlainType) (holder : Option Holder) (blocks : Blocks) (frames : List Frame) (rest : Ops) (o : Op) (more : List Site) (os : List Op)
      → results_at more ≡ map results_of os → results_at (op_sites type_of holder blocks frames rest o more) ≡ map results_of (op_all o os)
  op_same type_of holder blocks frames rest (op k results operands regions successors) more os e =
      ap (λ rs. numbers results ∷ rs) (regions_same type_of (holds type_of (op k results operands regions successors)) 0 frames regions more os e)

  ops_same : (type_of : ℕ → PlainType) (a : Around) (l : ℕ) (bound : List ℕ) (ops : Ops) (more : List Site) (os : List Op)
      → results_at more ≡ map results_of os → results_at (ops_sites type_of a l bound ops more) ≡ map results_of (ops_all ops os)
  ops_same type_of a l bound end_of_ops more os e = e
  ops_same type_of a l bound (more_ops o rest) more os e =
      op_same type_of a.holder a.blocks (frame_of a l bound (more_ops o rest)) rest o (ops_sites type_of a l (results_of o ++ bound) rest more) (ops_all rest os)
      (ops_same type_of a l (results_of o ++ bound) rest more os e)

  regions_same : (type_of : ℕ → PlainType) (holder : ℕ → Holder) (n : ℕ) (frames : List Frame) (rs : Regions) (more : List Site) (os : List Op)
      → results_at more ≡ map results_of os → results_at (regions_sites type_of holder n frames rs more) ≡ map results_of (regions_all rs os)
  regions_same type_of holder n frames end_of_regions more os e = e
  regions_same type_of holder n frames (region blocks rest) more os e =
      blocks_same type_of (record { holder = Some (holder n); blocks = blocks; outer = frames }) blocks (regions_sites type_of holder (n + 1) frames rest more) (regions_all rest os)
      (regions_same type_of holder (n + 1) frames rest more os e)

  blocks_same : (type_of : ℕ → PlainType) (a : Around) (bs : Blocks) (more : List Site) (os : List Op)
      → results_at more ≡ map results_of os → results_at (blocks_sites type_of a bs more) ≡ map results_of (blocks_all bs os)
  blocks_same type_of a end_of_blocks more os e = e
  blocks_same type_of a (block label args ops rest) more os e =
      ops_same type_of a label (numbers args) ops (blocks_sites type_of a rest more) (blocks_all rest os) (blocks_same type_of a rest more os e)

-- The first one

abbrev FirstBy : (ℕ → Type 0) → ℕ → Option ℕ → Type 0
FirstBy Q size None = (n : ℕ) → n < size → Q n → ⊥
FirstBy Q size (Some k) = (k < size) × Q k × ((n : ℕ) → n < k → Q n → ⊥)

abbrev Each : (List ℕ → Type 0) → (ℕ → Type 0) → List Op → Type 0
Each P Q os = (k : ℕ) (o : Op) → nth os k ≡ Some o → P (results_of o) ↔ Q k

none_at : (P : List ℕ → Type 0) (Q : ℕ → Type 0) (os : List Op) → Each P Q os → ((n : ℕ) → n < length os → Q n → ⊥) → AllOf (λ rs. P rs → ⊥) (map results_of os)
none_at P Q [] each none = tt
none_at P Q (o ∷ os) each none =
    (λ p. none 0 (omega arith) ((each 0 o refl).0 p), none_at P (λ n. Q (suc n)) os (λ k p at. each (suc k) p at) (λ n less. none (suc n) (omega (arith, less))))

some_at : (P : List ℕ → Type 0) (Q : ℕ → Type 0) (os : List Op) (k : ℕ) → Each P Q os → k < length os → Q k → ((n : ℕ) → n < k → Q n → ⊥) → IsFirst P (map results_of os) k
some_at P Q [] k each less q none = absurd (omega (arith, less))
some_at P Q (o ∷ os) zero each less q none = (each 0 o refl).1 q
some_at P Q (o ∷ os) (suc k) each less q none =
    (λ p. none 0 (omega arith) ((each 0 o refl).0 p), some_at P (λ n. Q (suc n)) os k (λ j p at. each (suc j) p at) (omega (arith, less)) q (λ n below. none (suc n) (omega (arith, below))))

first_by : (P : List ℕ → Type 0) (Q : ℕ → Type 0) (os : List Op) (place : Option ℕ) → Each P Q os → FirstBy Q (length os) place → FirstAt P (map results_of os) place
first_by P Q os None each none = none_at P Q os each none
first_by P Q os (Some k) each first = some_at P Q os k each first.0 first.1 first.2

none_site : (P : List ℕ → Type 0) (ss : List Site) → AllOf (λ rs. P rs → ⊥) (results_at ss) → AllOf (λ s. P s.results → ⊥) ss
none_site P [] none = tt
none_site P (s ∷ ss) none = (none.0, none_site P ss none.1)

some_site : (P : List ℕ → Type 0) (ss : List Site) (k : ℕ) → IsFirst P (results_at ss) k → IsFirst (λ s. P s.results) ss k
some_site P [] k first = first
some_site P (s ∷ ss) zero first = first
some_site P (s ∷ ss) (suc k) first = (first.0, some_site P ss k first.1)

first_site : (P : List ℕ → Type 0) (ss : List Site) (place : Option ℕ) → FirstAt P (results_at ss) place → FirstAt (λ s. P s.results) ss place
first_site P ss None none = none_site P ss none
first_site P ss (Some k) first = some_site P ss k first

-- of the graph
by_length : (edges : List (List ℕ)) (size : ℕ) (place : Option ℕ) → length edges ≡ size → FirstOnCycle edges place → FirstBy (OnCycle edges) size place
by_length edges size None e none = λ n less. none n (omega (arith, e, less))
by_length edges size (Some k) e first = (let less = first.0 in omega (arith, e, less), first.1, first.2)

pub own_at : (f : Op) (place : Option ℕ) → FirstOnCycle (graph (op_all f [])) place → is_numbered_once f ≡ true → FirstAt (UsesItself f) (sites f) place
own_at f place first numbered =
    let once = numbered_once f numbered in
    let os : List Op = op_all f [] in
    let size : length (graph os) ≡ length os = length-map os (row_of (maker_in os)) in
    first_site (AnyOf (λ v. Chain f v v)) (sites f) place
    (subst (λ rs. FirstAt (AnyOf (λ v. Chain f v v)) rs place) (sym (op_same (types_of f) None end_of_blocks [] end_of_ops f [] [] refl))
    (first_by (AnyOf (λ v. Chain f v v)) (OnCycle (graph os)) os place (λ k o at. own_cycle f (λ v. results_once v f (once.values v)) k o at) (by_length (graph os) (length os) place size first)))
