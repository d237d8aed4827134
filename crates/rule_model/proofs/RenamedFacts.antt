-- Renaming: the facts of operations are the same.
use Rattle.std.proofs.Common.{◌≡◌, ℕ, ◌==◌, Bool, true, false, List, ◌∷◌, ◌++◌, Option, Some, None, refl, sym, ap, ◌∙◌, map, true≢false}
use Rattle.std.specs.Prelude.{◌||◌, if◌then◌else◌}
use Rattle.std.specs.Option.{option_map}
use Rattle.plain_tree.specs.Types.{PlainType}
use Rattle.plain_tree.specs.Ops.{Kind, Op, Ops, Regions, Blocks, PlainBlock, Values}
use Rattle.plain_tree.specs.Values.{op_values, ops_values, regions_values, blocks_values, type_in, types_of}
use Rattle.plain_tree.specs.Renamings.{RenAll, none_all, more_all, RenValues, none_values, more_values, RenOp, ren_op, RenOps, ops_ended, ren_more, RenRegions, regions_ended, ren_region, RenBlocks, blocks_ended, ren_block, OneToOne, TypesAgree}
use Rattle.rule_model.specs.Words.{has, numbers, types, name_of, results_of, successors_of, first_block, block_of, is_first, binds_in_ops, binds}
use Rattle.rule_model.specs.Facts.{Facts, facts_of, Head, heads, Holder, is_end, last_in, last_name, regions_heads, Target, target}

-- Values and numbers

pub values_joined : {R : ℕ → ℕ → Type 0} {vs ws xs ys : Values} → RenValues R vs ws → RenValues R xs ys → RenValues R (vs ++ xs) (ws ++ ys)
values_joined none_values more = more
values_joined (more_values r vs) more = more_values r (values_joined vs more)

pub all_joined : {R : ℕ → ℕ → Type 0} {vs ws xs ys : List ℕ} → RenAll R vs ws → RenAll R xs ys → RenAll R (vs ++ xs) (ws ++ ys)
all_joined none_all more = more
all_joined (more_all r vs) more = more_all r (all_joined vs more)

mutual
  pub op_values_ren : {R L : ℕ → ℕ → Type 0} {o p : Op} {xs ys : Values} → RenOp R L o p → RenValues R xs ys → RenValues R (op_values o xs) (op_values p ys)
  op_values_ren (ren_op vs os r ls) more = values_joined vs (regions_values_ren r more)

  pub ops_values_ren : {R L : ℕ → ℕ → Type 0} {o p : Ops} {xs ys : Values} → RenOps R L o p → RenValues R xs ys → RenValues R (ops_values o xs) (ops_values p ys)
  ops_values_ren ops_ended more = more
  ops_values_ren (ren_more o os) more = op_values_ren o (ops_values_ren os more)

  pub regions_values_ren : {R L : ℕ → ℕ → Type 0} {o p : Regions} {xs ys : Values} → RenRegions R L o p → RenValues R xs ys → RenValues R (regions_values o xs) (regions_values p ys)
  regions_values_ren regions_ended more = more
  regions_values_ren (ren_region b r) more = blocks_values_ren b (regions_values_ren r more)

  pub blocks_values_ren : {R L : ℕ → ℕ → Type 0} {o p : Blocks} {xs ys : Values} → RenBlocks R L o p → RenValues R xs ys → RenValues R (blocks_values o xs) (blocks_values p ys)
  blocks_values_ren blocks_ended more = more
  blocks_values_ren (ren_block l vs os b) more = values_joined vs (ops_values_ren os (blocks_values_ren b more))

type_same : {R : ℕ → ℕ → Type 0} {vs ws : Values} → OneToOne R → RenValues R vs ws → (m n : ℕ) → R m n → type_in vs m ≡ type_in ws n
type_same one none_values m n r = refl
type_same one (more_values {m = a} {n = b} {t = t} {vs = vs} s rest) m n r =
    ap (λ c. if c then t else type_in vs m) (one a b m n s r) ∙ ap (λ u. if b == n then t else u) (type_same one rest m n r)

-- values that go together have the same type
pub types_agree : {R L : ℕ → ℕ → Type 0} {f g : Op} → OneToOne R → RenOp R L f g → TypesAgree R (types_of f) (types_of g)
types_agree one f m n r = type_same one (op_values_ren f none_values) m n r

pub has_same : {R : ℕ → ℕ → Type 0} {ms ns : List ℕ} {m n : ℕ} → OneToOne R → R m n → RenAll R ms ns → has m ms ≡ has n ns
has_same one r none_all = refl
has_same {m = m} {n = n} one r (more_all {m = a} {n = b} {ms = ms} s rest) =
    ap (λ c. c || has m ms) (one a b m n s r) ∙ ap (λ c. (b == n) || c) (has_same one r rest)

pub numbers_ren : {R : ℕ → ℕ → Type 0} {vs ws : Values} → RenValues R vs ws → RenAll R (numbers vs) (numbers ws)
numbers_ren none_values = none_all
numbers_ren (more_values r rest) = more_all r (numbers_ren rest)

pub types_same : {R : ℕ → ℕ → Type 0} {vs ws : Values} → RenValues R vs ws → types vs ≡ types ws
types_same none_values = refl
types_same (more_values {t = t} r rest) = ap (λ ts. t ∷ ts) (types_same rest)

operand_types : {R : ℕ → ℕ → Type 0} {ms ns : List ℕ} (s t : ℕ → PlainType) → TypesAgree R s t → RenAll R ms ns → map s ms ≡ map t ns
operand_types s t agree none_all = refl
operand_types s t agree (more_all {m = m} {n = n} {ms = ms} r rest) = ap (λ u. u ∷ map s ms) (agree m n r) ∙ ap (λ us. t n ∷ us) (operand_types s t agree rest)

pub name_same : {R L : ℕ → ℕ → Type 0} {o p : Op} → RenOp R L o p → name_of o ≡ name_of p
name_same (ren_op vs os r ls) = refl

pub results_ren : {R L : ℕ → ℕ → Type 0} {o p : Op} → RenOp R L o p → RenAll R (results_of o) (results_of p)
results_ren (ren_op vs os r ls) = numbers_ren vs

pub successors_ren : {R L : ℕ → ℕ → Type 0} {o p : Op} → RenOp R L o p → RenAll L (successors_of o) (successors_of p)
successors_ren (ren_op vs os r ls) = ls

-- Heads and targets

last_name_same : {R L : ℕ → ℕ → Type 0} {os ps : Ops} (name : List ℕ) → RenOps R L os ps → last_name name os ≡ last_name name ps
last_name_same name ops_ended = refl
last_name_same name (ren_more {o = o} {p = p} {os = os} r rest) = ap (λ n. last_name n os) (name_same r) ∙ last_name_same (name_of p) rest

last_same : {R L : ℕ → ℕ → Type 0} {os ps : Ops} → RenOps R L os ps → last_in os ≡ last_in ps
last_same ops_ended = refl
last_same (ren_more {o = o} {p = p} {os = os} r rest) = ap (λ n. Some (last_name n os)) (name_same r) ∙ ap Some (last_name_same (name_of p) rest)

abbrev headed : List PlainType → Option (List ℕ) → Head
headed ts n = record { args = ts; last = n }

heads_same : {R L : ℕ → ℕ → Type 0} {bs cs : Blocks} → RenBlocks R L bs cs → heads bs ≡ heads cs
heads_same blocks_ended = refl
heads_same (ren_block {ws = ws} {os = os} {ps = ps} {b = b} l vs ops rest) =
    ap (λ ts. headed ts (last_in os) ∷ heads b) (types_same vs)
    ∙ ap (λ n. headed (types ws) n ∷ heads b) (last_same ops)
    ∙ ap (λ hs. headed (types ws) (last_in ps) ∷ hs) (heads_same rest)

regions_same : {R L : ℕ → ℕ → Type 0} {rs ss : Regions} → RenRegions R L rs ss → regions_heads rs ≡ regions_heads ss
regions_same regions_ended = refl
regions_same (ren_region {c = c} {r = r} b rest) = ap (λ hs. hs ∷ regions_heads r) (heads_same b) ∙ ap (λ hs. heads c ∷ hs) (regions_same rest)

end_same : {R L : ℕ → ℕ → Type 0} {os ps : Ops} → RenOps R L os ps → is_end os ≡ is_end ps
end_same ops_ended = refl
end_same (ren_more r rest) = refl

-- blocks that go together
pub record RenBlock (R L : ℕ → ℕ → Type 0) (b c : PlainBlock) : Type 0 where
  pub label : L b.label c.label
  pub args : RenValues R b.args c.args
  pub ops : RenOps R L b.ops c.ops

pub data RenFound (R L : ℕ → ℕ → Type 0) : Option PlainBlock → Option PlainBlock → Type 0 where
  none_found : RenFound R L None None
  one_found : {b c : PlainBlock} → RenBlock R L b c → RenFound R L (Some b) (Some c)

found_by : {R L : ℕ → ℕ → Type 0} (a b : Bool) {o p x y : Option PlainBlock} → a ≡ b → RenFound R L o p → RenFound R L x y → RenFound R L (if a then o else x) (if b then p else y)
found_by true true e f g = f
found_by false false e f g = g
found_by true false e f g = absurd (true≢false e)
found_by false true e f g = absurd (true≢false (sym e))

pub block_found : {R L : ℕ → ℕ → Type 0} {bs cs : Blocks} {m n : ℕ} → OneToOne L → L m n → RenBlocks R L bs cs → RenFound R L (block_of m bs) (block_of n cs)
block_found one l blocks_ended = none_found
block_found {m = m} {n = n} one l (ren_block {l = a} {m = b} here vs os rest) =
    found_by (a == m) (b == n) (one a b m n here l) (one_found (record { label = here; args = vs; ops = os })) (block_found one l rest)

pub first_found : {R L : ℕ → ℕ → Type 0} {bs cs : Blocks} → RenBlocks R L bs cs → RenFound R L (first_block bs) (first_block cs)
first_found blocks_ended = none_found
first_found (ren_block l vs os rest) = one_found (record { label = l; args = vs; ops = os })

args_same : {R L : ℕ → ℕ → Type 0} {o p : Option PlainBlock} → RenFound R L o p → option_map (λ (b : PlainBlock). types b.args) o ≡ option_map (λ (b : PlainBlock). types b.args) p
args_same none_found = refl
args_same (one_found b) = ap Some (types_same b.args)

is_first_same : {R L : ℕ → ℕ → Type 0} {bs cs : Blocks} {m n : ℕ} → OneToOne L → L m n → RenBlocks R L bs cs → is_first m bs ≡ is_first n cs
is_first_same one l blocks_ended = refl
is_first_same {m = m} {n = n} one l (ren_block {l = a} {m = b} here vs os rest) = one a b m n here l

target_same : {R L : ℕ → ℕ → Type 0} {bs cs : Blocks} {m n : ℕ} → OneToOne L → L m n → RenBlocks R L bs cs → target bs m ≡ target cs n
target_same {bs = bs} {cs = cs} {m = m} {n = n} one l b =
    ap (λ args. record { args = args; first = is_first m bs }) (args_same (block_found one l b))
    ∙ ap (λ first. record { args = option_map (λ (c : PlainBlock). types c.args) (block_of n cs); first = first }) (is_first_same one l b)

targets_same : {R L : ℕ → ℕ → Type 0} {bs cs : Blocks} {ms ns : List ℕ} → OneToOne L → RenBlocks R L bs cs → RenAll L ms ns → map (target bs) ms ≡ map (target cs) ns
targets_same one b none_all = refl
targets_same {bs = bs} {cs = cs} one b (more_all {n = n} {ms = ms} l rest) =
    ap (λ t. t ∷ map (target bs) ms) (target_same one l b) ∙ ap (λ ts. target cs n ∷ ts) (targets_same one b rest)

-- Facts

abbrev made : Kind → List PlainType → List PlainType → List Target → List (List Head) → Option Holder → Bool → Facts
made k operands results successors regions holder last = record {
  name = k.name;
  props = k.props;
  operands = operands;
  results = results;
  successors = successors;
  regions = regions;
  holder = holder;
  last = last;
}

six : (k : Kind) {a b c d : List PlainType} {e f : List Target} {g h : List (List Head)} {i j : Option Holder} {l m : Bool}
    → a ≡ b → c ≡ d → e ≡ f → g ≡ h → i ≡ j → l ≡ m → made k a c e g i l ≡ made k b d f h j m
six k {b = b} {c = c} {d = d} {e = e} {f = f} {g = g} {h = h} {i = i} {j = j} {l = l} p q r s t u =
    ap (λ x. made k x c e g i l) p ∙ ap (λ x. made k b x e g i l) q ∙ ap (λ x. made k b d x g i l) r ∙ ap (λ x. made k b d f x i l) s
    ∙ ap (λ x. made k b d f h x l) t ∙ ap (λ x. made k b d f h j x) u

pub facts_same : {R L : ℕ → ℕ → Type 0} {o p : Op} {bs cs : Blocks} {rest more : Ops} {h i : Option Holder} (s t : ℕ → PlainType)
    → OneToOne L → TypesAgree R s t → h ≡ i → RenBlocks R L bs cs → RenOps R L rest more → RenOp R L o p → facts_of s h bs rest o ≡ facts_of t i cs more p
facts_same s t one agree same blocks rest (ren_op {k = k} vs os r ls) =
    six k (operand_types s t agree os) (types_same vs) (targets_same one blocks ls) (regions_same r) same (end_same rest)

-- Definitions in a region

pub ops_bind_same : {R L : ℕ → ℕ → Type 0} {os ps : Ops} {m n : ℕ} → OneToOne R → R m n → RenOps R L os ps → binds_in_ops m os ≡ binds_in_ops n ps
ops_bind_same one r ops_ended = refl
ops_bind_same {m = m} {n = n} one r (ren_more {p = p} {os = os} o rest) =
    ap (λ b. b || binds_in_ops m os) (has_same one r (results_ren o)) ∙ ap (λ b. has n (results_of p) || b) (ops_bind_same one r rest)

pub binds_same : {R L : ℕ → ℕ → Type 0} {bs cs : Blocks} {m n : ℕ} → OneToOne R → R m n → RenBlocks R L bs cs → binds m bs ≡ binds n cs
binds_same one r blocks_ended = refl
binds_same {m = m} {n = n} one r (ren_block {ws = ws} {os = os} {ps = ps} {b = b} l vs ops rest) =
    ap (λ x. x || (binds_in_ops m os || binds m b)) (has_same one r (numbers_ren vs))
    ∙ ap (λ x. has n (numbers ws) || (x || binds m b)) (ops_bind_same one r ops)
    ∙ ap (λ x. has n (numbers ws) || (binds_in_ops n ps || x)) (binds_same one r rest)
