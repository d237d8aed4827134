-- Rule `Defined` at each operation and region by region are the same.
use Rattle.std.proofs.Common.{◌≡◌, ℕ, ◌+◌, ◌==◌, Bool, true, false, List, [], ◌∷◌, ◌++◌, Option, Some, None, refl, sym, ap, ◌∙◌, subst, inl, inr, true≢false}
use Rattle.std.specs.Prelude.{if◌then◌else◌}
use Rattle.std.proofs.lemmas.Option.{none-some}
use Rattle.std.proofs.lemmas.Bool.{eqb-true}
use Rattle.plain_tree.specs.Types.{PlainType}
use Rattle.plain_tree.specs.Ops.{Op, op, Ops, end_of_ops, more_ops, Regions, end_of_regions, region, Blocks, end_of_blocks, block, PlainBlock}
use Rattle.plain_tree.specs.Values.{types_of}
use Rattle.rule_model.specs.Words.{AllOf, AnyOf, binds, block_of, first_block, numbers, results_of}
use Rattle.rule_model.specs.Facts.{Holder}
use Rattle.rule_model.specs.Paths.{Either, enters, Frame, jumps, passes, Reach, Undefined}
use Rattle.rule_model.specs.Sites.{Around, blocks_sites, frame_of, holds, op_sites, ops_sites, regions_sites, Site}
use Rattle.rule_model.specs.Scopes.{DefinedAt, DefinedBlocks, DefinedByRegions, DefinedOp, DefinedOps, DefinedRegions, FreeBlocks, FreeOp, FreeOps, FreeRegions, ReachedWithout, ReachedWithoutInFunction}
use Rattle.rule_model.proofs.Numbers.{has_of, some_same}

abbrev Fine : Site → Type 0
Fine s = AnyOf (Undefined s.frames) s.operands → ⊥

-- a predicate that says of each number that it isn't undefined at these places
abbrev Says : List Frame → (ℕ → Type 0) → Type 0
Says frames here = (u : ℕ) → (here u → Undefined frames u → ⊥) × ((Undefined frames u → ⊥) → here u)

at_one : (b : Bool) (P Q R : Type 0) → ((R → Q → ⊥) × ((Q → ⊥) → R)) → ((Either b (P → ⊥) R) → Either b P Q → ⊥) × ((Either b P Q → ⊥) → Either b (P → ⊥) R)
at_one true P Q R says = (λ no p. no p, λ no. no)
at_one false P Q R says = says

says_on : (f : Frame) (outer : List Frame) (there : ℕ → Type 0) → Says outer there → Says (f ∷ outer) (DefinedAt f.blocks there f.label f.bound f.ops)
says_on f outer there says u = at_one (binds u f.blocks) (Reach f.blocks u f.label f.bound f.ops) (Undefined outer u) (there u) (says u)

to_uses : (frames : List Frame) (here : ℕ → Type 0) (us : List ℕ) → Says frames here → AllOf here us → AnyOf (Undefined frames) us → ⊥
to_uses frames here [] says all any = any
to_uses frames here (u ∷ us) says all (inl x) = (says u).0 all.0 x
to_uses frames here (u ∷ us) says all (inr x) = to_uses frames here us says all.1 x

from_uses : (frames : List Frame) (here : ℕ → Type 0) (us : List ℕ) → Says frames here → (AnyOf (Undefined frames) us → ⊥) → AllOf here us
from_uses frames here [] says never = tt
from_uses frames here (u ∷ us) says never = ((says u).1 (λ x. never (inl x)), from_uses frames here us says (λ x. never (inr x)))

-- From regions to operations

mutual
  to_op : (type_of : ℕ → PlainType) (holder : Option Holder) (blocks : Blocks) (frames : List Frame) (rest : Ops) (o : Op) (more : List Site) (here : ℕ → Type 0)
      → Says frames here → DefinedOp here o → AllOf Fine more → AllOf Fine (op_sites type_of holder blocks frames rest o more)
  to_op type_of holder blocks frames rest (op k results operands regions successors) more here says d later =
      (to_uses frames here operands says d.0, to_regions type_of (holds type_of (op k results operands regions successors)) 0 frames regions more here says d.1 later)

  to_ops : (type_of : ℕ → PlainType) (a : Around) (l : ℕ) (bound : List ℕ) (ops : Ops) (more : List Site) (there : ℕ → Type 0)
      → Says a.outer there → DefinedOps a.blocks there l bound ops → AllOf Fine more → AllOf Fine (ops_sites type_of a l bound ops more)
  to_ops type_of a l bound end_of_ops more there says d later = later
  to_ops type_of a l bound (more_ops o rest) more there says d later =
      to_op type_of a.holder a.blocks (frame_of a l bound (more_ops o rest)) rest o (ops_sites type_of a l (results_of o ++ bound) rest more)
      (DefinedAt a.blocks there l bound (more_ops o rest)) (says_on (record { blocks = a.blocks; label = l; bound = bound; ops = more_ops o rest }) a.outer there says) d.0
      (to_ops type_of a l (results_of o ++ bound) rest more there says d.1 later)

  to_regions : (type_of : ℕ → PlainType) (holder : ℕ → Holder) (n : ℕ) (frames : List Frame) (rs : Regions) (more : List Site) (here : ℕ → Type 0)
      → Says frames here → DefinedRegions here rs → AllOf Fine more → AllOf Fine (regions_sites type_of holder n frames rs more)
  to_regions type_of holder n frames end_of_regions more here says d later = later
  to_regions type_of holder n frames (region blocks rest) more here says d later =
      to_blocks type_of (record { holder = Some (holder n); blocks = blocks; outer = frames }) blocks (regions_sites type_of holder (n + 1) frames rest more) here says d.0
      (to_regions type_of holder (n + 1) frames rest more here says d.1 later)

  to_blocks : (type_of : ℕ → PlainType) (a : Around) (bs : Blocks) (more : List Site) (there : ℕ → Type 0)
      → Says a.outer there → DefinedBlocks a.blocks there bs → AllOf Fine more → AllOf Fine (blocks_sites type_of a bs more)
  to_blocks type_of a end_of_blocks more there says d later = later
  to_blocks type_of a (block label args ops rest) more there says d later =
      to_ops type_of a label (numbers args) ops (blocks_sites type_of a rest more) there says d.0 (to_blocks type_of a rest more there says d.1 later)

-- And back

mutual
  from_op : (type_of : ℕ → PlainType) (holder : Option Holder) (blocks : Blocks) (frames : List Frame) (rest : Ops) (o : Op) (more : List Site) (here : ℕ → Type 0)
      → Says frames here → AllOf Fine (op_sites type_of holder blocks frames rest o more) → DefinedOp here o × AllOf Fine more
  from_op type_of holder blocks frames rest (op k results operands regions successors) more here says all =
      let r = from_regions type_of (holds type_of (op k results operands regions successors)) 0 frames regions more here says all.1 in
      ((from_uses frames here operands says all.0, r.0), r.1)

  from_ops : (type_of : ℕ → PlainType) (a : Around) (l : ℕ) (bound : List ℕ) (ops : Ops) (more : List Site) (there : ℕ → Type 0)
      → Says a.outer there → AllOf Fine (ops_sites type_of a l bound ops more) → DefinedOps a.blocks there l bound ops × AllOf Fine more
  from_ops type_of a l bound end_of_ops more there says all = (tt, all)
  from_ops type_of a l bound (more_ops o rest) more there says all =
      let first = from_op type_of a.holder a.blocks (frame_of a l bound (more_ops o rest)) rest o (ops_sites type_of a l (results_of o ++ bound) rest more)
      (DefinedAt a.blocks there l bound (more_ops o rest)) (says_on (record { blocks = a.blocks; label = l; bound = bound; ops = more_ops o rest }) a.outer there says) all in
      let later = from_ops type_of a l (results_of o ++ bound) rest more there says first.1 in
      ((first.0, later.0), later.1)

  from_regions : (type_of : ℕ → PlainType) (holder : ℕ → Holder) (n : ℕ) (frames : List Frame) (rs : Regions) (more : List Site) (here : ℕ → Type 0)
      → Says frames here → AllOf Fine (regions_sites type_of holder n frames rs more) → DefinedRegions here rs × AllOf Fine more
  from_regions type_of holder n frames end_of_regions more here says all = (tt, all)
  from_regions type_of holder n frames (region blocks rest) more here says all =
      let first = from_blocks type_of (record { holder = Some (holder n); blocks = blocks; outer = frames }) blocks (regions_sites type_of holder (n + 1) frames rest more) here says all in
      let later = from_regions type_of holder (n + 1) frames rest more here says first.1 in
      ((first.0, later.0), later.1)

  from_blocks : (type_of : ℕ → PlainType) (a : Around) (bs : Blocks) (more : List Site) (there : ℕ → Type 0)
      → Says a.outer there → AllOf Fine (blocks_sites type_of a bs more) → DefinedBlocks a.blocks there bs × AllOf Fine more
  from_blocks type_of a end_of_blocks more there says all = (tt, all)
  from_blocks type_of a (block label args ops rest) more there says all =
      let first = from_ops type_of a label (numbers args) ops (blocks_sites type_of a rest more) there says all in
      let later = from_blocks type_of a rest more there says first.1 in
      ((first.0, later.0), later.1)

says_nothing : Says [] (λ u. ⊥)
says_nothing u = (λ no x. no, λ never. never tt)

pub defined_by_regions : DefinedByRegions
defined_by_regions f = (
  λ all. (from_op (types_of f) None end_of_blocks [] end_of_ops f [] (λ u. ⊥) says_nothing all).0,
  λ d. to_op (types_of f) None end_of_blocks [] end_of_ops f [] (λ u. ⊥) says_nothing d tt,
)

-- Free uses

otherwise : (b : Bool) (P Q : Type 0) → b ≡ false → Either b P Q → Q
otherwise true P Q e x = absurd (true≢false e)
otherwise false P Q e x = x

mutual
  free_op : (here : ℕ → Type 0) (u : ℕ) (o : Op) → DefinedOp here o → FreeOp u o → here u
  free_op here u (op k results operands regions successors) d (inl x) = has_of here u operands d.0 x
  free_op here u (op k results operands regions successors) d (inr x) = free_regions here u regions d.1 x

  free_ops : (bs : Blocks) (outer : ℕ → Type 0) (u l : ℕ) (bound : List ℕ) (ops : Ops) → binds u bs ≡ false → DefinedOps bs outer l bound ops → FreeOps u ops → outer u
  free_ops bs outer u l bound end_of_ops none d x = absurd x
  free_ops bs outer u l bound (more_ops o rest) none d (inl x) =
      otherwise (binds u bs) (Reach bs u l bound (more_ops o rest) → ⊥) (outer u) none (free_op (DefinedAt bs outer l bound (more_ops o rest)) u o d.0 x)
  free_ops bs outer u l bound (more_ops o rest) none d (inr x) = free_ops bs outer u l (results_of o ++ bound) rest none d.1 x

  free_regions : (outer : ℕ → Type 0) (u : ℕ) (rs : Regions) → DefinedRegions outer rs → FreeRegions u rs → outer u
  free_regions outer u end_of_regions d x = absurd x
  free_regions outer u (region blocks more) d (inl x) = free_blocks blocks outer u blocks x.0 d.0 x.1
  free_regions outer u (region blocks more) d (inr x) = free_regions outer u more d.1 x

  free_blocks : (bs : Blocks) (outer : ℕ → Type 0) (u : ℕ) (cs : Blocks) → binds u bs ≡ false → DefinedBlocks bs outer cs → FreeBlocks u cs → outer u
  free_blocks bs outer u end_of_blocks none d x = absurd x
  free_blocks bs outer u (block label args ops more) none d (inl x) = free_ops bs outer u label (numbers args) ops none d.0 x
  free_blocks bs outer u (block label args ops more) none d (inr x) = free_blocks bs outer u more none d.1 x

first_defined : (bs : Blocks) (outer : ℕ → Type 0) (cs : Blocks) (b : PlainBlock) → DefinedBlocks bs outer cs → first_block cs ≡ Some b → DefinedOps bs outer b.label (numbers b.args) b.ops
first_defined bs outer end_of_blocks b d e = absurd (none-some b e)
first_defined bs outer (block label args ops more) b d e =
    subst (λ (c : PlainBlock). DefinedOps bs outer c.label (numbers c.args) c.ops) (some_same (record { label = label; args = args; ops = ops }) b e) d.0

block_defined : (bs : Blocks) (outer : ℕ → Type 0) (cs : Blocks) (t : ℕ) (b : PlainBlock) → DefinedBlocks bs outer cs → block_of t cs ≡ Some b
    → DefinedOps bs outer b.label (numbers b.args) b.ops
block_defined bs outer end_of_blocks t b d e = absurd (none-some b e)
block_defined bs outer (block label args ops more) t b d e = go (label == t) e (λ k. block_defined bs outer more t b d.1 k)
  where
    go : (x : Bool) → (if x then Some (record { label = label; args = args; ops = ops }) else block_of t more) ≡ Some b
        → (block_of t more ≡ Some b → DefinedOps bs outer b.label (numbers b.args) b.ops) → DefinedOps bs outer b.label (numbers b.args) b.ops
    go true k rest = subst (λ (c : PlainBlock). DefinedOps bs outer c.label (numbers c.args) c.ops) (some_same (record { label = label; args = args; ops = ops }) b k) d.0
    go false k rest = rest k

same_label : (t : ℕ) (bs : Blocks) (b : PlainBlock) → block_of t bs ≡ Some b → b.label ≡ t
same_label t end_of_blocks b e = absurd (none-some b e)
same_label t (block label args ops more) b e = go (label == t) refl e (λ k. same_label t more b k)
  where
    go : (x : Bool) → (label == t) ≡ x → (if x then Some (record { label = label; args = args; ops = ops }) else block_of t more) ≡ Some b
        → (block_of t more ≡ Some b → b.label ≡ t) → b.label ≡ t
    go true f k rest = sym (ap (λ (c : PlainBlock). c.label) (some_same (record { label = label; args = args; ops = ops }) b k)) ∙ eqb-true label t f
    go false f k rest = rest k

-- where a place is reached, the rule holds from there on
from_here : {bs : Blocks} {u l : ℕ} {bound : List ℕ} {ops : Ops} (outer : ℕ → Type 0) → DefinedBlocks bs outer bs → Reach bs u l bound ops → DefinedOps bs outer l bound ops
from_here {bs = bs} outer d (enters b e f) = first_defined bs outer bs b d e
from_here outer d (passes o r e f) = (from_here outer d r).1
from_here {bs = bs} outer d (jumps o t b r e h is f) =
    subst (λ l. DefinedOps bs outer l (numbers b.args) b.ops) (same_label t bs b is) (block_defined bs outer bs t b d is)

inside : (b : Bool) (P Q : Type 0) → b ≡ true → Either b P Q → P
inside true P Q e x = x
inside false P Q e x = absurd (true≢false (sym e))

pub reached_without : ReachedWithout
reached_without bs outer u l bound o rest d own r free =
    inside (binds u bs) (Reach bs u l bound (more_ops o rest) → ⊥) (outer u) own
    (free_op (DefinedAt bs outer l bound (more_ops o rest)) u o (from_here outer d r).0 free) r

pub reached_in_function : ReachedWithoutInFunction
reached_in_function bs u l bound o rest d own r free = reached_without bs (λ v. ⊥) u l bound o rest d own r free
