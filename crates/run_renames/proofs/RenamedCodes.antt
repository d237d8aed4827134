-- Functions as a run sees them that are the same but for numbers, and their values.
use Rattle.std.proofs.Common.{◌≡◌, ℕ, zero, suc, ◌==◌, List, [], ◌∷◌, Option, Some, None, refl, ap, subst, ◌∙◌, map}
use Rattle.std.specs.Prelude.{if◌then◌else◌}
use Rattle.plain_tree.specs.Types.{PlainType}
use Rattle.plain_tree.specs.Ops as tree
use Rattle.plain_tree.specs.Renamings.{RenAll, none_all, more_all, RenValues, none_values, more_values, RenOp, ren_op, RenOps, ops_ended, ren_more, RenRegions, regions_ended, ren_region, RenBlocks, blocks_ended, ren_block, OneToOne, TypesAgree}
use Rattle.conversion_model.proofs.RenamedTypes.{operand_types, value_types}
use Rattle.conversion_model.proofs.RenamedLines.{either_way}
use Rattle.operation_model.specs.Values.{Value}
use Rattle.operation_model.specs.Forms.{Form}
use Rattle.form_model.specs.Codes.{Ops, OpsEnd, Op, Blocks, BlocksEnd, Block, Regions, RegionsEnd, Region, Target, Env, entry, find_block, lookup, lookups, and_value, bind, region_at}
use Rattle.sound_model.specs.Runs.{form_at}
use Rattle.code_laws.specs.PlainCodes.{body_of, blocks_codes, first_region, numbers_in, op_codes, ops_codes, regions_codes, types_in}

-- Codes

mutual
  -- operations of the same forms, in order
  pub data CodeOps (R L : ℕ → ℕ → Type 0) : Ops → Ops → Type 0 where
    no_code : CodeOps R L OpsEnd OpsEnd
    one_code : {form : Form} {rs ss os ps ls ms : List ℕ} {r s : Regions} {rest more : Ops} → RenAll R rs ss → RenAll R os ps → RenAll L ls ms → CodeRegions R L r s → CodeOps R L rest more
        → CodeOps R L (Op form rs os ls r rest) (Op form ss ps ms s more)

  pub data CodeRegions (R L : ℕ → ℕ → Type 0) : Regions → Regions → Type 0 where
    no_region : CodeRegions R L RegionsEnd RegionsEnd
    one_region : {b c : Blocks} {r s : Regions} → CodeBlocks R L b c → CodeRegions R L r s → CodeRegions R L (Region b r) (Region c s)

  pub data CodeBlocks (R L : ℕ → ℕ → Type 0) : Blocks → Blocks → Type 0 where
    no_block : CodeBlocks R L BlocksEnd BlocksEnd
    one_block : {l m : ℕ} {xs ys : List ℕ} {os ps : Ops} {b c : Blocks} → L l m → RenAll R xs ys → CodeOps R L os ps → CodeBlocks R L b c → CodeBlocks R L (Block l xs os b) (Block m ys ps c)

numbers_ren : {R : ℕ → ℕ → Type 0} {vs ws : tree.Values} → RenValues R vs ws → RenAll R (numbers_in vs) (numbers_in ws)
numbers_ren none_values = none_all
numbers_ren (more_values r rest) = more_all r (numbers_ren rest)

by_forms : {R L : ℕ → ℕ → Type 0} {rs ss os ps ls ms : List ℕ} {r s : Regions} {rest more : Ops} (f g : Form) → f ≡ g → RenAll R rs ss → RenAll R os ps → RenAll L ls ms → CodeRegions R L r s → CodeOps R L rest more
    → CodeOps R L (Op f rs os ls r rest) (Op g ss ps ms s more)
by_forms {R = R} {L = L} {rs = rs} {ss = ss} {os = os} {ps = ps} {ls = ls} {ms = ms} {r = r} {s = s} {rest = rest} {more = more} f g e x y z held behind =
    subst (λ h. CodeOps R L (Op f rs os ls r rest) (Op h ss ps ms s more)) e (one_code x y z held behind)

-- where values that go together have the same types, operations have the same forms
module _ {R L : ℕ → ℕ → Type 0} (bits : ℕ) (s t : ℕ → PlainType) (agree : TypesAgree R s t) where
  mutual
    op_code_ren : {o p : tree.Op} {rest more : Ops} → RenOp R L o p → CodeOps R L rest more → CodeOps R L (op_codes bits s o rest) (op_codes bits t p more)
    op_code_ren (ren_op {k = k} {rs = rs} {ss = ss} {os = os} {ps = ps} results operands held successors) behind =
        by_forms (form_at bits k.name k.props (map s os) (types_in rs)) (form_at bits k.name k.props (map t ps) (types_in ss))
        (ap (λ ts. form_at bits k.name k.props ts (types_in rs)) (operand_types s t agree operands) ∙ ap (λ ts. form_at bits k.name k.props (map t ps) ts) (value_types results))
        (numbers_ren results) operands successors (regions_code_ren held) behind

    ops_code_ren : {o p : tree.Ops} → RenOps R L o p → CodeOps R L (ops_codes bits s o) (ops_codes bits t p)
    ops_code_ren ops_ended = no_code
    ops_code_ren (ren_more o rest) = op_code_ren o (ops_code_ren rest)

    regions_code_ren : {r q : tree.Regions} → RenRegions R L r q → CodeRegions R L (regions_codes bits s r) (regions_codes bits t q)
    regions_code_ren regions_ended = no_region
    regions_code_ren (ren_region b rest) = one_region (blocks_code_ren b) (regions_code_ren rest)

    blocks_code_ren : {b c : tree.Blocks} → RenBlocks R L b c → CodeBlocks R L (blocks_codes bits s b) (blocks_codes bits t c)
    blocks_code_ren blocks_ended = no_block
    blocks_code_ren (ren_block l args ops rest) = one_block l (numbers_ren args) (ops_code_ren ops) (blocks_code_ren rest)

  first_ren : {r q : Regions} → CodeRegions R L r q → CodeBlocks R L (first_region r) (first_region q)
  first_ren no_region = no_block
  first_ren (one_region b rest) = b

  pub body_ren : {f g : tree.Op} → RenOp R L f g → CodeBlocks R L (body_of bits s f) (body_of bits t g)
  body_ren (ren_op results operands held successors) = first_ren (regions_code_ren held)

-- Both have something, or neither has

pub data BothHave {A : Type 0} (P : A → A → Type 0) : Option A → Option A → Type 0 where
  neither_has : BothHave P None None
  both_have : {x y : A} → P x y → BothHave P (Some x) (Some y)

-- Values

-- the same values in the same order, under numbers that go together
pub data EnvRen (R : ℕ → ℕ → Type 0) : Env → Env → Type 0 where
  no_value : EnvRen R [] []
  one_value : {m n : ℕ} {v : Value} {e d : Env} → R m n → EnvRen R e d → EnvRen R ((m, v) ∷ e) ((n, v) ∷ d)

lookup_same : {R : ℕ → ℕ → Type 0} {e d : Env} (m n : ℕ) → OneToOne R → R m n → EnvRen R e d → lookup m e ≡ lookup n d
lookup_same m n one r no_value = refl
lookup_same m n one r (one_value {m = a} {n = b} {v = v} {e = e} {d = d} s rest) =
    ap (λ c. if c then Some v else lookup m e) (one a b m n s r) ∙ ap (λ o. if b == n then Some v else o) (lookup_same m n one r rest)

-- A number that has no value has none on either side.
pub lookups_same : {R : ℕ → ℕ → Type 0} {e d : Env} {ms ns : List ℕ} → OneToOne R → RenAll R ms ns → EnvRen R e d → lookups ms e ≡ lookups ns d
lookups_same one none_all env = refl
lookups_same {e = e} {d = d} one (more_all {m = m} {n = n} {ms = ms} {ns = ns} r rest) env =
    ap (λ o. and_value o (lookups ms e)) (lookup_same m n one r env) ∙ ap (λ o. and_value (lookup n d) o) (lookups_same one rest env)

pub bind_ren : {R : ℕ → ℕ → Type 0} {e d : Env} {ms ns : List ℕ} → RenAll R ms ns → (vs : List Value) → EnvRen R e d → BothHave (EnvRen R) (bind ms vs e) (bind ns vs d)
bind_ren none_all [] env = both_have env
bind_ren none_all (v ∷ vs) env = neither_has
bind_ren (more_all r rest) [] env = neither_has
bind_ren (more_all r rest) (v ∷ vs) env = bind_ren rest vs (one_value r env)

-- Blocks

pub record TargetRen (R L : ℕ → ℕ → Type 0) (t u : Target) : Type 0 where
  pub args : RenAll R t.args u.args
  pub ops : CodeOps R L t.ops u.ops

pub entry_ren : {R L : ℕ → ℕ → Type 0} {b c : Blocks} → CodeBlocks R L b c → BothHave (TargetRen R L) (entry b) (entry c)
entry_ren no_block = neither_has
entry_ren (one_block l args ops rest) = both_have (record { args = args; ops = ops })

pub find_ren : {R L : ℕ → ℕ → Type 0} {b c : Blocks} (l m : ℕ) → OneToOne L → L l m → CodeBlocks R L b c → BothHave (TargetRen R L) (find_block l b) (find_block m c)
find_ren l m labels e no_block = neither_has
find_ren {R = R} {L = L} l m labels e (one_block {l = h} {m = i} {xs = xs} {ys = ys} {os = os} {ps = ps} {b = b} {c = c} d args ops rest) =
    either_way (BothHave (TargetRen R L)) (h == l) (i == m) (Some (record { args = xs; ops = os })) (find_block l b) (Some (record { args = ys; ops = ps })) (find_block m c)
    (labels h i l m d e) (both_have (record { args = args; ops = ops })) (find_ren l m labels e rest)

pub region_ren : {R L : ℕ → ℕ → Type 0} {r s : Regions} (i : ℕ) → CodeRegions R L r s → CodeBlocks R L (region_at i r) (region_at i s)
region_ren i no_region = no_block
region_ren zero (one_region b rest) = b
region_ren (suc i) (one_region b rest) = region_ren i rest
