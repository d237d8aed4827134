-- Paths of a new region followed in the old one, for one number v.
use Rattle.std.proofs.Common.{◌≡◌, ℕ, true, false, List, Option, Some, sym, ap, ◌∙◌}
use Rattle.plain_tree.specs.Ops.{Op, Ops, end_of_ops, more_ops, Blocks, PlainBlock}
use Rattle.rule_model.specs.Words.{binds, block_of, first_block, has, numbers, results_of, successors_of}
use Rattle.rule_model.specs.Paths.{ends, enters, jumps, passes, Reach}
use Rattle.rule_model.specs.Scopes.{DefinedBlocks, FreeOp}
use Rattle.rule_model.proofs.ScopeLaws.{reached_without}
use Rattle.line_rules.proofs.Words.{clash, has_neither}

-- what is said of the first of these operations
abbrev pub Head : (Op → Type 0) → Ops → Type 0
Head Use end_of_ops = ⊥
Head Use (more_ops o rest) = Use o

-- Operations of the new region near operations of the old one, up to where v is defined: both go on by one, or the new ones
-- do in the place of the old one, or the old ones do.
pub data Near (v : ℕ) (Use : Op → Type 0) : Ops → Ops → Type 0 where
  both_end : Near v Use end_of_ops end_of_ops
  both : {o p : Op} {os ps : Ops} → ends p ≡ ends o → successors_of p ≡ successors_of o → (ends o ≡ false → has v (results_of o) ≡ false) → (FreeOp v p → Use o)
      → Near v Use os ps → Near v Use (more_ops o os) (more_ops p ps)
  makes : {p : Op} {os ps : Ops} → ends p ≡ false → (FreeOp v p → Head Use os) → Near v Use os ps → Near v Use os (more_ops p ps)
  binds_it : {p : Op} {os ps : Ops} → ends p ≡ false → has v (results_of p) ≡ true → (FreeOp v p → Head Use os) → Near v Use os (more_ops p ps)
  passed : {o : Op} {os ps : Ops} → ends o ≡ false → has v (results_of o) ≡ false → Near v Use os ps → Near v Use (more_ops o os) ps

-- new operations before v is defined that don't use it, none a terminator
pub data Waits (v : ℕ) : Ops → Type 0 where
  waits_on : {p : Op} {ps : Ops} → ends p ≡ false → (FreeOp v p → ⊥) → Waits v ps → Waits v (more_ops p ps)
  waits_for : {p : Op} {ps : Ops} → ends p ≡ false → (FreeOp v p → ⊥) → has v (results_of p) ≡ true → Waits v (more_ops p ps)

-- a place of the new region: near one that is reached in the old region, or waiting
pub data Followed (bs : Blocks) (v : ℕ) (Use : Op → Type 0) : Ops → Type 0 where
  at_place : {l : ℕ} {bound : List ℕ} {os ps : Ops} → Reach bs v l bound os → Near v Use os ps → Followed bs v Use ps
  at_front : {ps : Ops} → Waits v ps → Followed bs v Use ps

-- the start of a block
pub data Starts (v : ℕ) (Use : Op → Type 0) (b c : PlainBlock) : Type 0 where
  starts_near : has v (numbers b.args) ≡ false → Near v Use b.ops c.ops → Starts v Use b c
  starts_waiting : Waits v c.ops → Starts v Use b c

pub record Started (v : ℕ) (Use : Op → Type 0) (x : Option PlainBlock) (c : PlainBlock) : Type 0 where
  pub at : PlainBlock
  pub is : x ≡ Some at
  pub starts : Starts v Use at c

-- each block of the new region goes with the one of its label
pub record Alike (bs cs : Blocks) (v : ℕ) (Use : Op → Type 0) : Type 0 where
  pub first : (c : PlainBlock) → first_block cs ≡ Some c → has v (numbers c.args) ≡ false → Started v Use (first_block bs) c
  pub each : (t : ℕ) (c : PlainBlock) → block_of t cs ≡ Some c → has v (numbers c.args) ≡ false → Started v Use (block_of t bs) c

pub has_none : {bs : Blocks} {v l : ℕ} {bound : List ℕ} {ops : Ops} → Reach bs v l bound ops → has v bound ≡ false
has_none (enters b e f) = f
has_none {v = v} (passes o {bound = bound} r e f) = has_neither v (results_of o) bound f (has_none r)
has_none (jumps o t b r e h is f) = f

entered : {bs : Blocks} {Use : Op → Type 0} {v : ℕ} (b c : PlainBlock) → first_block bs ≡ Some b → Starts v Use b c → Followed bs v Use c.ops
entered b c e (starts_near f n) = at_place (enters b e f) n
entered b c e (starts_waiting w) = at_front w

jumped : {bs : Blocks} {Use : Op → Type 0} {v l : ℕ} {bound : List ℕ} {rest : Ops} (o : Op) (t : ℕ) (b c : PlainBlock)
    → Reach bs v l bound (more_ops o rest) → ends o ≡ true → has t (successors_of o) ≡ true → block_of t bs ≡ Some b → Starts v Use b c → Followed bs v Use c.ops
jumped o t b c r e h is (starts_near f n) = at_place (jumps o t b r e h is f) n
jumped o t b c r e h is (starts_waiting w) = at_front w

step_on : {bs : Blocks} {Use : Op → Type 0} {v l : ℕ} {bound : List ℕ} {os ps : Ops} (p : Op) → Reach bs v l bound os → Near v Use os (more_ops p ps)
    → ends p ≡ false → has v (results_of p) ≡ false → Followed bs v Use ps
step_on p r (both {o = o} same to f free n) e none = at_place (passes o r (sym same ∙ e) (f (sym same ∙ e))) n
step_on p r (makes on free n) e none = at_place r n
step_on p r (binds_it on own free) e none = clash own none
step_on p r (passed {o = o} on f n) e none = step_on p (passes o r on f) n e none

jump_on : {bs cs : Blocks} {Use : Op → Type 0} {v l : ℕ} {bound : List ℕ} {os ps : Ops} (p : Op) (t : ℕ) (c : PlainBlock) → Alike bs cs v Use → Reach bs v l bound os → Near v Use os (more_ops p ps)
    → ends p ≡ true → has t (successors_of p) ≡ true → block_of t cs ≡ Some c → has v (numbers c.args) ≡ false → Followed bs v Use c.ops
jump_on p t c alike r (both {o = o} same to f free n) e h is none =
    let s = alike.each t c is none in
    jumped o t s.at c r (sym same ∙ e) (ap (λ xs. has t xs) (sym to) ∙ h) s.is s.starts
jump_on p t c alike r (makes on free n) e h is none = clash e on
jump_on p t c alike r (binds_it on own free) e h is none = clash e on
jump_on p t c alike r (passed {o = o} on f n) e h is none = jump_on p t c alike (passes o r on f) n e h is none

step_from : {bs : Blocks} {Use : Op → Type 0} {v : ℕ} {ps : Ops} (p : Op) → Followed bs v Use (more_ops p ps) → ends p ≡ false → has v (results_of p) ≡ false → Followed bs v Use ps
step_from p (at_place r n) e none = step_on p r n e none
step_from p (at_front (waits_on on free w)) e none = at_front w
step_from p (at_front (waits_for on free own)) e none = clash own none

jump_from : {bs cs : Blocks} {Use : Op → Type 0} {v : ℕ} {ps : Ops} (p : Op) (t : ℕ) (c : PlainBlock) → Alike bs cs v Use → Followed bs v Use (more_ops p ps)
    → ends p ≡ true → has t (successors_of p) ≡ true → block_of t cs ≡ Some c → has v (numbers c.args) ≡ false → Followed bs v Use c.ops
jump_from p t c alike (at_place r n) e h is none = jump_on p t c alike r n e h is none
jump_from p t c alike (at_front (waits_on on free w)) e h is none = clash e on
jump_from p t c alike (at_front (waits_for on free own)) e h is none = clash e on

pub followed : {bs cs : Blocks} {Use : Op → Type 0} {v l : ℕ} {bound : List ℕ} {ps : Ops} → Alike bs cs v Use → Reach cs v l bound ps → Followed bs v Use ps
followed alike (enters c e f) = let s = alike.first c e f in entered s.at c s.is s.starts
followed alike (passes p r e f) = step_from p (followed alike r) e f
followed alike (jumps p t c r e h is f) = jump_from p t c alike (followed alike r) e h is f

-- no operation that is so is reached without v
abbrev pub NoneReached : Blocks → ℕ → (Op → Type 0) → Type 0
NoneReached bs v Use = (l : ℕ) (bound : List ℕ) (o : Op) (rest : Ops) → Reach bs v l bound (more_ops o rest) → Use o → ⊥

head_unused : (bs : Blocks) (v l : ℕ) (Use : Op → Type 0) (bound : List ℕ) (os : Ops) → NoneReached bs v Use → Reach bs v l bound os → Head Use os → ⊥
head_unused bs v l Use bound end_of_ops none r used = used
head_unused bs v l Use bound (more_ops o rest) none r used = none l bound o rest r used

near_unused : {bs : Blocks} {v l : ℕ} {Use : Op → Type 0} {bound : List ℕ} {os ps : Ops} (p : Op) → NoneReached bs v Use → Reach bs v l bound os → Near v Use os (more_ops p ps) → FreeOp v p → ⊥
near_unused {l = l} {bound = bound} p none r (both {o = o} {os = os} same to f free n) used = none l bound o os r (free used)
near_unused {bs = bs} {v = v} {l = l} {Use = Use} {bound = bound} {os = os} p none r (makes on free n) used = head_unused bs v l Use bound os none r (free used)
near_unused {bs = bs} {v = v} {l = l} {Use = Use} {bound = bound} {os = os} p none r (binds_it on binds free) used = head_unused bs v l Use bound os none r (free used)
near_unused p none r (passed {o = o} on f n) used = near_unused p none (passes o r on f) n used

-- where no operation of the old region that is so is reached without v, none of the new one uses it freely
pub unused : {bs : Blocks} {v : ℕ} {Use : Op → Type 0} {ps : Ops} (p : Op) → NoneReached bs v Use → Followed bs v Use (more_ops p ps) → FreeOp v p → ⊥
unused p none (at_place r n) used = near_unused p none r n used
unused p none (at_front (waits_on on free w)) used = free used
unused p none (at_front (waits_for on free own_here)) used = free used

-- in a region that keeps rule `Defined`
pub free_unreached : (bs : Blocks) (outer : ℕ → Type 0) (v : ℕ) → DefinedBlocks bs outer bs → binds v bs ≡ true → NoneReached bs v (FreeOp v)
free_unreached bs outer v d own l bound o rest r used = reached_without bs outer v l bound o rest d own r used
