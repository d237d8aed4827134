-- Block arguments in converted types: each new one is of its block's label.
use Rattle.std.proofs.Common.{◌≡◌, ℕ, ◌+◌, ◌≤◌, Bool, true, false, [], ◌∷◌, Option, Some, None, arith, length}
use Rattle.plain_tree.specs.Types.{PlainType}
use Rattle.plain_tree.specs.Ops.{Op, op, Ops, end_of_ops, more_ops, Regions, end_of_regions, region, Blocks, end_of_blocks, block, Values}
use Rattle.conversion_model.specs.Types.{new_type}
use Rattle.conversion_model.specs.Conversion.{blocks_blocks, cast_back, casts_back, new_argument, new_arguments, op_blocks, ops_blocks, regions_blocks}
use Rattle.conversion_model.specs.Counts.{blocks_total, hits, named_count, none, op_total, ops_total, regions_total, values_total}
use Rattle.conversion_model.proofs.OnceLemmas.{NamedAt, named_at}
use Rattle.conversion_model.proofs.OnceStages.{either_part}

pub record NamedBlock (v : ℕ) (new : ℕ → ℕ → ℕ) : Type 0 where
  pub label : ℕ
  pub place : ℕ
  pub is : new label place ≡ v

-- that much more: where it is something, v is a new argument; and no more than labels of blocks, where v is of one label
pub record More (v : ℕ) (new : ℕ → ℕ → ℕ) (before after : ℕ) (labels : ℕ → ℕ) : Type 0 where
  pub extra : ℕ
  pub found : 1 ≤ extra → NamedBlock v new
  pub most : after ≤ before + extra
  pub within : (l : ℕ) → ((m room : ℕ) → named_count v (new m) 0 room ≤ hits l m) → extra ≤ labels l

one_argument : (v new : ℕ) (a : ℕ × PlainType) (u : Option PlainType) (args : Values) (more : Ops)
    → values_total (hits v) (new_argument new a u ∷ args) + ops_total (hits v) none (cast_back new a u more) ≤ hits v new + hits v a.0 + values_total (hits v) args + ops_total (hits v) none more
one_argument v new a None args more = omega arith
one_argument v new a (Some u) args more = omega arith

arguments_most : (v bits : ℕ) (new : ℕ → ℕ) (k : ℕ) (args : Values) (more : Ops)
    → values_total (hits v) (new_arguments bits new k args) + ops_total (hits v) none (casts_back bits new k args more)
    ≤ values_total (hits v) args + named_count v new k (length args) + ops_total (hits v) none more
arguments_most v bits new k [] more = omega arith
arguments_most v bits new k (a ∷ args) more =
    omega (
      arith,
      one_argument v (new k) a (new_type bits a.1) (new_arguments bits new (k + 1) args) (casts_back bits new (k + 1) args more),
      arguments_most v bits new (k + 1) args more,
    )

nothing_more : (v : ℕ) (new : ℕ → ℕ → ℕ) (n : ℕ) (labels : ℕ → ℕ) → More v new n n labels
nothing_more v new n labels = record { extra = 0; found = λ some. absurd (omega (arith, some)); most = omega arith; within = λ l one. omega arith }

mutual
  pub op_more : (v bits : ℕ) (new : ℕ → ℕ → ℕ) (o : Op) → More v new (op_total (hits v) none o) (op_total (hits v) none (op_blocks bits new o)) (λ l. op_total none (hits l) o)
  op_more v bits new (op k results operands regions successors) =
      let rest : More v new (regions_total (hits v) none regions) (regions_total (hits v) none (regions_blocks bits new regions)) (λ l. regions_total none (hits l) regions) = regions_more v bits new regions in
      record { extra = rest.extra; found = rest.found; most = omega (arith, rest.most); within = λ l one. omega (arith, rest.within l one) }

  pub ops_more : (v bits : ℕ) (new : ℕ → ℕ → ℕ) (os : Ops) → More v new (ops_total (hits v) none os) (ops_total (hits v) none (ops_blocks bits new os)) (λ l. ops_total none (hits l) os)
  ops_more v bits new end_of_ops = nothing_more v new 0 (λ l. 0)
  ops_more v bits new (more_ops o os) =
      let here : More v new (op_total (hits v) none o) (op_total (hits v) none (op_blocks bits new o)) (λ l. op_total none (hits l) o) = op_more v bits new o in
      let rest : More v new (ops_total (hits v) none os) (ops_total (hits v) none (ops_blocks bits new os)) (λ l. ops_total none (hits l) os) = ops_more v bits new os in
      record {
        extra = here.extra + rest.extra;
        found = either_part here.extra rest.extra here.found rest.found;
        most = omega (arith, here.most, rest.most);
        within = λ l one. omega (arith, here.within l one, rest.within l one);
      }

  pub regions_more : (v bits : ℕ) (new : ℕ → ℕ → ℕ) (rs : Regions) → More v new (regions_total (hits v) none rs) (regions_total (hits v) none (regions_blocks bits new rs)) (λ l. regions_total none (hits l) rs)
  regions_more v bits new end_of_regions = nothing_more v new 0 (λ l. 0)
  regions_more v bits new (region blocks more) =
      let here : More v new (blocks_total (hits v) none blocks) (blocks_total (hits v) none (blocks_blocks bits new true blocks)) (λ l. blocks_total none (hits l) blocks) = blocks_more v bits new true blocks in
      let rest : More v new (regions_total (hits v) none more) (regions_total (hits v) none (regions_blocks bits new more)) (λ l. regions_total none (hits l) more) = regions_more v bits new more in
      record {
        extra = here.extra + rest.extra;
        found = either_part here.extra rest.extra here.found rest.found;
        most = omega (arith, here.most, rest.most);
        within = λ l one. omega (arith, here.within l one, rest.within l one);
      }

  pub blocks_more : (v bits : ℕ) (new : ℕ → ℕ → ℕ) (is_first : Bool) (bs : Blocks)
      → More v new (blocks_total (hits v) none bs) (blocks_total (hits v) none (blocks_blocks bits new is_first bs)) (λ l. blocks_total none (hits l) bs)
  blocks_more v bits new is_first end_of_blocks = nothing_more v new 0 (λ l. 0)
  blocks_more v bits new true (block label args ops more) =
      let here : More v new (ops_total (hits v) none ops) (ops_total (hits v) none (ops_blocks bits new ops)) (λ l. ops_total none (hits l) ops) = ops_more v bits new ops in
      let rest : More v new (blocks_total (hits v) none more) (blocks_total (hits v) none (blocks_blocks bits new false more)) (λ l. blocks_total none (hits l) more) = blocks_more v bits new false more in
      record {
        extra = here.extra + rest.extra;
        found = either_part here.extra rest.extra here.found rest.found;
        most = omega (arith, here.most, rest.most);
        within = λ l one. omega (arith, here.within l one, rest.within l one);
      }
  blocks_more v bits new false (block label args ops more) =
      let here : More v new (ops_total (hits v) none ops) (ops_total (hits v) none (ops_blocks bits new ops)) (λ l. ops_total none (hits l) ops) = ops_more v bits new ops in
      let rest : More v new (blocks_total (hits v) none more) (blocks_total (hits v) none (blocks_blocks bits new false more)) (λ l. blocks_total none (hits l) more) = blocks_more v bits new false more in
      let own : ℕ = named_count v (new label) 0 (length args) in
      record {
        extra = own + (here.extra + rest.extra);
        found = either_part own (here.extra + rest.extra)
            (λ some. let there : NamedAt v (new label) 0 = named_at v (new label) 0 (length args) some in record { label = label; place = there.place; is = there.is })
            (either_part here.extra rest.extra here.found rest.found);
        most = omega (arith, here.most, rest.most, arguments_most v bits (new label) 0 args (ops_blocks bits new ops));
        within = λ l one. omega (arith, here.within l one, rest.within l one, one label (length args));
      }
