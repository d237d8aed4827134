-- Renaming: types, shapes and sizes are the same.
use Rattle.std.proofs.Common.{◌≡◌, ℕ, suc, ◌+◌, ◌==◌, List, ◌∷◌, ◌++◌, refl, ap, ◌∙◌, length, map}
use Rattle.std.specs.Prelude.{if◌then◌else◌}
use Rattle.plain_tree.specs.Types.{PlainType}
use Rattle.plain_tree.specs.Ops.{Op, Ops, Regions, Blocks, Values}
use Rattle.conversion_model.specs.Targets.{name_of, operands_of, region_count, shape_of, shape_with}
use Rattle.conversion_model.specs.Items.{op_size, ops_size, regions_size, blocks_size}
use Rattle.conversion_model.specs.Uses.{op_values, ops_values, regions_values, blocks_values, type_in, types_of}
use Rattle.conversion_model.specs.Renamings.{RenAll, none_all, more_all, RenValues, none_values, more_values, RenOp, ren_op, RenOps, ops_ended, ren_more, RenRegions, regions_ended, ren_region, RenBlocks, blocks_ended, ren_block, OneToOne, TypesAgree}

pub values_joined : {R : ℕ → ℕ → Type 0} {vs ws xs ys : Values} → RenValues R vs ws → RenValues R xs ys → RenValues R (vs ++ xs) (ws ++ ys)
values_joined none_values more = more
values_joined (more_values r vs) more = more_values r (values_joined vs more)

mutual
  pub op_values_ren : {R L : ℕ → ℕ → Type 0} {o p : Op} {xs ys : Values} → RenOp R L o p → RenValues R xs ys → RenValues R (op_values o xs) (op_values p ys)
  op_values_ren (ren_op vs os r ls) more = values_joined vs (regions_values_ren r more)

  pub ops_values_ren : {R L : ℕ → ℕ → Type 0} {o p : Ops} {xs ys : Values} → RenOps R L o p → RenValues R xs ys → RenValues R (ops_values o xs) (ops_values p ys)
  ops_values_ren ops_ended more = more
  ops_values_ren (ren_more o os) more = op_values_ren o (ops_values_ren os more)

  pub regions_values_ren : {R L : ℕ → ℕ → Type 0} {o p : Regions} {xs ys : Values} → RenRegions R L o p → RenValues R xs ys → RenValues R (regions_values o xs) (regions_values p ys)
  regions_values_ren regions_ended more = more
  regions_values_ren (ren_region b r) more = blocks_values_ren b (regions_values_ren r more)

  pub blocks_values_ren : {R L : ℕ → ℕ → Type 0} {o p : Blocks} {xs ys : Values} → RenBlocks R L o p → RenValues R xs ys → RenValues R (blocks_values o xs) (blocks_values p ys)
  blocks_values_ren blocks_ended more = more
  blocks_values_ren (ren_block l vs os b) more = values_joined vs (ops_values_ren os (blocks_values_ren b more))

type_same : {R : ℕ → ℕ → Type 0} {vs ws : Values} → OneToOne R → RenValues R vs ws → (m n : ℕ) → R m n → type_in vs m ≡ type_in ws n
type_same one none_values m n r = refl
type_same one (more_values {m = a} {n = b} {t = t} {vs = vs} s rest) m n r =
    ap (λ c. if c then t else type_in vs m) (one a b m n s r) ∙ ap (λ u. if b == n then t else u) (type_same one rest m n r)

-- values that go together have the same type in functions that go together
pub types_agree : {R L : ℕ → ℕ → Type 0} {f g : Op} → OneToOne R → RenOp R L f g → TypesAgree R (types_of f) (types_of g)
types_agree one f m n r = type_same one (op_values_ren f none_values) m n r

pub operand_types : {R : ℕ → ℕ → Type 0} {ms ns : List ℕ} (s t : ℕ → PlainType) → TypesAgree R s t → RenAll R ms ns → map s ms ≡ map t ns
operand_types s t agree none_all = refl
operand_types s t agree (more_all {m = m} {n = n} {ms = ms} r rest) = ap (λ u. u ∷ map s ms) (agree m n r) ∙ ap (λ us. t n ∷ us) (operand_types s t agree rest)

pub value_types : {R : ℕ → ℕ → Type 0} {vs ws : Values} → RenValues R vs ws → map (λ (v : ℕ × PlainType). v.1) vs ≡ map (λ (v : ℕ × PlainType). v.1) ws
value_types none_values = refl
value_types (more_values {t = t} r rest) = ap (λ ts. t ∷ ts) (value_types rest)

pub all_length : {R : ℕ → ℕ → Type 0} {ms ns : List ℕ} → RenAll R ms ns → length ms ≡ length ns
all_length none_all = refl
all_length (more_all r rest) = ap (λ n. suc n) (all_length rest)

pub region_counts : {R L : ℕ → ℕ → Type 0} {r s : Regions} → RenRegions R L r s → region_count r ≡ region_count s
region_counts regions_ended = refl
region_counts (ren_region b r) = ap (λ n. n + 1) (region_counts r)

pub shape_same : {R L : ℕ → ℕ → Type 0} {o p : Op} (types : List PlainType) → RenOp R L o p → shape_with types o ≡ shape_with types p
shape_same types (ren_op {k = k} {rs = rs} {ss = ss} {r = r} {s = s} {ls = ls} {ms = ms} vs os rr ll) =
    ap (λ results. record { name = k.name; operands = types; results = results; props = k.props; attrs = k.attrs; successors = length ls; regions = region_count r }) (value_types vs)
    ∙ ap (λ n. record { name = k.name; operands = types; results = map (λ v. v.1) ss; props = k.props; attrs = k.attrs; successors = n; regions = region_count r }) (all_length ll)
    ∙ ap (λ n. record { name = k.name; operands = types; results = map (λ v. v.1) ss; props = k.props; attrs = k.attrs; successors = length ms; regions = n }) (region_counts rr)

pub operands_ren : {R L : ℕ → ℕ → Type 0} {o p : Op} → RenOp R L o p → RenAll R (operands_of o) (operands_of p)
operands_ren (ren_op vs os r ls) = os

pub name_same : {R L : ℕ → ℕ → Type 0} {o p : Op} → RenOp R L o p → name_of o ≡ name_of p
name_same (ren_op vs os r ls) = refl

pub shapes : {R L : ℕ → ℕ → Type 0} {o p : Op} (s t : ℕ → PlainType) → TypesAgree R s t → RenOp R L o p → shape_of s o ≡ shape_of t p
shapes {o = o} {p = p} s t agree r = ap (λ ts. shape_with ts o) (operand_types s t agree (operands_ren r)) ∙ shape_same (map t (operands_of p)) r

mutual
  pub op_sizes : {R L : ℕ → ℕ → Type 0} {o p : Op} → RenOp R L o p → op_size o ≡ op_size p
  op_sizes (ren_op vs os r ls) = ap (λ n. n + 1) (regions_sizes r)

  pub ops_sizes : {R L : ℕ → ℕ → Type 0} {o p : Ops} → RenOps R L o p → ops_size o ≡ ops_size p
  ops_sizes ops_ended = refl
  ops_sizes (ren_more {p = p} {os = os} o rest) = ap (λ n. n + ops_size os) (op_sizes o) ∙ ap (λ n. op_size p + n) (ops_sizes rest)

  pub regions_sizes : {R L : ℕ → ℕ → Type 0} {o p : Regions} → RenRegions R L o p → regions_size o ≡ regions_size p
  regions_sizes regions_ended = refl
  regions_sizes (ren_region {c = c} {r = r} b rest) = ap (λ n. n + regions_size r) (blocks_sizes b) ∙ ap (λ n. blocks_size c + n) (regions_sizes rest)

  pub blocks_sizes : {R L : ℕ → ℕ → Type 0} {o p : Blocks} → RenBlocks R L o p → blocks_size o ≡ blocks_size p
  blocks_sizes blocks_ended = refl
  blocks_sizes (ren_block {ps = ps} {b = b} l vs os rest) = ap (λ n. n + blocks_size b) (ops_sizes os) ∙ ap (λ n. ops_size ps + n) (blocks_sizes rest)
