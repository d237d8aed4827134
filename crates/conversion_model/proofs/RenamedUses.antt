-- Renaming: copies left out, and block arguments converted.
use Rattle.std.proofs.Common.{◌≡◌, ℕ, ◌+◌, ◌==◌, Bool, true, false, List, [], ◌∷◌, ◌++◌, Option, Some, None, ap, subst, map}
use Rattle.std.specs.Str.{bytes_eq}
use Rattle.plain_tree.specs.Types.{PlainType}
use Rattle.plain_tree.specs.Ops.{Op, Ops, more_ops, Regions, Blocks, Values}
use Rattle.conversion_model.specs.Types.{new_type}
use Rattle.conversion_model.specs.Templates.{copy_name}
use Rattle.conversion_model.specs.Items.{op_size, ops_size, blocks_size}
use Rattle.conversion_model.specs.Uses.{blocks_listed, copies_in, copies_left_out, followed, is_copy, op_listed, operations, ops_listed, op_uses, ops_uses, regions_uses, blocks_uses, op_without, ops_without, regions_without, blocks_without, pair_in, regions_listed, replaced}
use Rattle.conversion_model.specs.Conversion.{blocks_blocks, cast_back, casts_back, new_argument, new_arguments, op_blocks, ops_blocks, regions_blocks}
use Rattle.conversion_model.specs.Renamings.{RenAll, none_all, more_all, RenValues, none_values, more_values, RenOp, ren_op, RenOps, ops_ended, ren_more, RenRegions, regions_ended, ren_region, RenBlocks, blocks_ended, ren_block, OneToOne}
use Rattle.conversion_model.proofs.RenamedTypes.{blocks_sizes, name_same, op_sizes, ops_sizes}
use Rattle.conversion_model.proofs.RenamedLines.{either_way}

-- maps of numbers that go together
abbrev pub Along : (ℕ → ℕ → Type 0) → (ℕ → ℕ) → (ℕ → ℕ) → Type 0
Along R f g = (m n : ℕ) → R m n → R (f m) (g n)

mapped : {R : ℕ → ℕ → Type 0} {ms ns : List ℕ} (f g : ℕ → ℕ) → Along R f g → RenAll R ms ns → RenAll R (map f ms) (map g ns)
mapped f g along none_all = none_all
mapped f g along (more_all {m = m} {n = n} r rest) = more_all (along m n r) (mapped f g along rest)

mutual
  pub op_uses_ren : {R L : ℕ → ℕ → Type 0} {o p : Op} (f g : ℕ → ℕ) → Along R f g → RenOp R L o p → RenOp R L (op_uses f o) (op_uses g p)
  op_uses_ren f g along (ren_op vs os r ls) = ren_op vs (mapped f g along os) (regions_uses_ren f g along r) ls

  pub ops_uses_ren : {R L : ℕ → ℕ → Type 0} {o p : Ops} (f g : ℕ → ℕ) → Along R f g → RenOps R L o p → RenOps R L (ops_uses f o) (ops_uses g p)
  ops_uses_ren f g along ops_ended = ops_ended
  ops_uses_ren f g along (ren_more o os) = ren_more (op_uses_ren f g along o) (ops_uses_ren f g along os)

  pub regions_uses_ren : {R L : ℕ → ℕ → Type 0} {o p : Regions} (f g : ℕ → ℕ) → Along R f g → RenRegions R L o p → RenRegions R L (regions_uses f o) (regions_uses g p)
  regions_uses_ren f g along regions_ended = regions_ended
  regions_uses_ren f g along (ren_region b r) = ren_region (blocks_uses_ren f g along b) (regions_uses_ren f g along r)

  pub blocks_uses_ren : {R L : ℕ → ℕ → Type 0} {o p : Blocks} (f g : ℕ → ℕ) → Along R f g → RenBlocks R L o p → RenBlocks R L (blocks_uses f o) (blocks_uses g p)
  blocks_uses_ren f g along blocks_ended = blocks_ended
  blocks_uses_ren f g along (ren_block l vs os b) = ren_block l vs (ops_uses_ren f g along os) (blocks_uses_ren f g along b)

-- tests that say the same of operations that go together
abbrev pub TestsAgree : (ℕ → ℕ → Type 0) → (ℕ → ℕ → Type 0) → (Op → Bool) → (Op → Bool) → Type 0
TestsAgree R L s t = (o p : Op) → RenOp R L o p → s o ≡ t p

mutual
  pub op_without_ren : {R L : ℕ → ℕ → Type 0} {o p : Op} (s t : Op → Bool) → TestsAgree R L s t → RenOp R L o p → RenOp R L (op_without s o) (op_without t p)
  op_without_ren s t agree (ren_op vs os r ls) = ren_op vs os (regions_without_ren s t agree r) ls

  pub ops_without_ren : {R L : ℕ → ℕ → Type 0} {o p : Ops} (s t : Op → Bool) → TestsAgree R L s t → RenOps R L o p → RenOps R L (ops_without s o) (ops_without t p)
  ops_without_ren s t agree ops_ended = ops_ended
  ops_without_ren {R = R} {L = L} s t agree (ren_more {o = o} {p = p} {os = os} {ps = ps} r rest) =
      either_way (RenOps R L) (s o) (t p) (ops_without s os) (more_ops (op_without s o) (ops_without s os)) (ops_without t ps) (more_ops (op_without t p) (ops_without t ps)) (agree o p r)
      (ops_without_ren s t agree rest) (ren_more (op_without_ren s t agree r) (ops_without_ren s t agree rest))

  pub regions_without_ren : {R L : ℕ → ℕ → Type 0} {o p : Regions} (s t : Op → Bool) → TestsAgree R L s t → RenRegions R L o p → RenRegions R L (regions_without s o) (regions_without t p)
  regions_without_ren s t agree regions_ended = regions_ended
  regions_without_ren s t agree (ren_region b r) = ren_region (blocks_without_ren s t agree b) (regions_without_ren s t agree r)

  pub blocks_without_ren : {R L : ℕ → ℕ → Type 0} {o p : Blocks} (s t : Op → Bool) → TestsAgree R L s t → RenBlocks R L o p → RenBlocks R L (blocks_without s o) (blocks_without t p)
  blocks_without_ren s t agree blocks_ended = blocks_ended
  blocks_without_ren s t agree (ren_block l vs os b) = ren_block l vs (ops_without_ren s t agree os) (blocks_without_ren s t agree b)

-- listed operations that go together, of the same numbers
pub data RenListed (R L : ℕ → ℕ → Type 0) : List (ℕ × Op) → List (ℕ × Op) → Type 0 where
  listed_ended : RenListed R L [] []
  more_listed : {n : ℕ} {o p : Op} {os ps : List (ℕ × Op)} → RenOp R L o p → RenListed R L os ps → RenListed R L ((n, o) ∷ os) ((n, p) ∷ ps)

mutual
  pub op_listed_ren : {R L : ℕ → ℕ → Type 0} {o p : Op} {xs ys : List (ℕ × Op)} (n : ℕ) → RenOp R L o p → RenListed R L xs ys → RenListed R L (op_listed n o xs) (op_listed n p ys)
  op_listed_ren n (ren_op {k = k} vs os r ls) more = more_listed (ren_op {k = k} vs os r ls) (regions_listed_ren (n + 1) r more)

  pub ops_listed_ren : {R L : ℕ → ℕ → Type 0} {o p : Ops} {xs ys : List (ℕ × Op)} (n : ℕ) → RenOps R L o p → RenListed R L xs ys → RenListed R L (ops_listed n o xs) (ops_listed n p ys)
  ops_listed_ren n ops_ended more = more
  ops_listed_ren {R = R} {L = L} {xs = xs} {ys = ys} n (ren_more {o = o} {p = p} {os = os} {ps = ps} r rest) more =
      op_listed_ren n r (subst (λ k. RenListed R L (ops_listed (n + op_size o) os xs) (ops_listed (n + k) ps ys)) (op_sizes r) (ops_listed_ren (n + op_size o) rest more))

  pub regions_listed_ren : {R L : ℕ → ℕ → Type 0} {o p : Regions} {xs ys : List (ℕ × Op)} (n : ℕ) → RenRegions R L o p → RenListed R L xs ys → RenListed R L (regions_listed n o xs) (regions_listed n p ys)
  regions_listed_ren n regions_ended more = more
  regions_listed_ren {R = R} {L = L} {xs = xs} {ys = ys} n (ren_region {b = b} {c = c} {r = r} {s = s} blocks rest) more =
      blocks_listed_ren n blocks (subst (λ k. RenListed R L (regions_listed (n + blocks_size b) r xs) (regions_listed (n + k) s ys)) (blocks_sizes blocks) (regions_listed_ren (n + blocks_size b) rest more))

  pub blocks_listed_ren : {R L : ℕ → ℕ → Type 0} {o p : Blocks} {xs ys : List (ℕ × Op)} (n : ℕ) → RenBlocks R L o p → RenListed R L xs ys → RenListed R L (blocks_listed n o xs) (blocks_listed n p ys)
  blocks_listed_ren n blocks_ended more = more
  blocks_listed_ren {R = R} {L = L} {xs = xs} {ys = ys} n (ren_block {os = os} {ps = ps} {b = b} {c = c} l vs ops rest) more =
      ops_listed_ren n ops (subst (λ k. RenListed R L (blocks_listed (n + ops_size os) b xs) (blocks_listed (n + k) c ys)) (ops_sizes ops) (blocks_listed_ren (n + ops_size os) rest more))

pub operations_ren : {R L : ℕ → ℕ → Type 0} {f g : Op} → RenOp R L f g → RenListed R L (operations f) (operations g)
operations_ren r = op_listed_ren 0 r listed_ended

-- Copies

pub data RenPairs (R : ℕ → ℕ → Type 0) : List (ℕ × ℕ) → List (ℕ × ℕ) → Type 0 where
  pairs_ended : RenPairs R [] []
  more_pairs : {a b c d : ℕ} {xs ys : List (ℕ × ℕ)} → R a b → R c d → RenPairs R xs ys → RenPairs R ((a, c) ∷ xs) ((b, d) ∷ ys)

pair_joined : {R L : ℕ → ℕ → Type 0} {o p : Op} {xs ys : List (ℕ × ℕ)} → RenOp R L o p → RenPairs R xs ys → RenPairs R (pair_in o ++ xs) (pair_in p ++ ys)
pair_joined (ren_op none_values os r ls) more = more
pair_joined (ren_op (more_values v none_values) none_all r ls) more = more
pair_joined (ren_op (more_values v none_values) (more_all u none_all) r ls) more = more_pairs v u more
pair_joined (ren_op (more_values v none_values) (more_all u (more_all w us)) r ls) more = more
pair_joined (ren_op (more_values v (more_values w vs)) os r ls) more = more

pub copies_ren : {R L : ℕ → ℕ → Type 0} {os ps : List (ℕ × Op)} → RenListed R L os ps → RenPairs R (copies_in os) (copies_in ps)
copies_ren listed_ended = pairs_ended
copies_ren {R = R} {L = L} (more_listed {o = o} {p = p} {os = os} {ps = ps} r rest) =
    either_way (RenPairs R) (is_copy o) (is_copy p) (pair_in o ++ copies_in os) (copies_in os) (pair_in p ++ copies_in ps) (copies_in ps) (ap (λ name. bytes_eq name copy_name) (name_same r))
    (pair_joined r (copies_ren rest)) (copies_ren rest)

pub replaced_ren : {R : ℕ → ℕ → Type 0} {a b c d : ℕ} → OneToOne R → R a b → R c d → Along R (replaced a c) (replaced b d)
replaced_ren {R = R} {a = a} {b = b} {c = c} {d = d} one from to m n r = either_way R (m == a) (n == b) c m d n (one m n a b r from) to r

pub followed_ren : {R : ℕ → ℕ → Type 0} {cs ds : List (ℕ × ℕ)} (f g : ℕ → ℕ) → OneToOne R → RenPairs R cs ds → Along R f g → Along R (followed cs f) (followed ds g)
followed_ren f g one pairs_ended along m n r = r
followed_ren f g one (more_pairs {a = a} {b = b} {c = c} {d = d} from to rest) along m n r =
    followed_ren (λ v. replaced a (f c) (f v)) (λ v. replaced b (g d) (g v)) one rest
    (λ i j s. replaced_ren one from (along c d to) (f i) (g j) (along i j s)) (replaced a (f c) m) (replaced b (g d) n) (replaced_ren one from (along c d to) m n r)

pub left_out_ren : {R L : ℕ → ℕ → Type 0} {f g : Op} → OneToOne R → RenOp R L f g → RenOp R L (copies_left_out f) (copies_left_out g)
left_out_ren one r =
    op_uses_ren _ _ (followed_ren (λ v. v) (λ v. v) one (copies_ren (operations_ren r)) (λ m n s. s)) (op_without_ren is_copy is_copy (λ o p s. ap (λ name. bytes_eq name copy_name) (name_same s)) r)

-- Block arguments

new_argument_ren : {R : ℕ → ℕ → Type 0} {vs ws : Values} (a b m n : ℕ) (t : PlainType) (c : Option PlainType) → R a b → R m n → RenValues R vs ws
    → RenValues R (new_argument a (m, t) c ∷ vs) (new_argument b (n, t) c ∷ ws)
new_argument_ren a b m n t None new r rest = more_values r rest
new_argument_ren a b m n t (Some u) new r rest = more_values new rest

arguments_ren : {R : ℕ → ℕ → Type 0} {vs ws : Values} (bits : ℕ) (f g : ℕ → ℕ) → ((k : ℕ) → R (f k) (g k)) → (k : ℕ) → RenValues R vs ws → RenValues R (new_arguments bits f k vs) (new_arguments bits g k ws)
arguments_ren bits f g new k none_values = none_values
arguments_ren bits f g new k (more_values {m = m} {n = n} {t = t} r rest) = new_argument_ren (f k) (g k) m n t (new_type bits t) (new k) r (arguments_ren bits f g new (k + 1) rest)

cast_back_ren : {R L : ℕ → ℕ → Type 0} {os ps : Ops} (a b m n : ℕ) (t : PlainType) (c : Option PlainType) → R a b → R m n → RenOps R L os ps → RenOps R L (cast_back a (m, t) c os) (cast_back b (n, t) c ps)
cast_back_ren a b m n t None new r more = more
cast_back_ren a b m n t (Some u) new r more = ren_more (ren_op (more_values r none_values) (more_all new none_all) regions_ended none_all) more

casts_back_ren : {R L : ℕ → ℕ → Type 0} {vs ws : Values} {os ps : Ops} (bits : ℕ) (f g : ℕ → ℕ) → ((k : ℕ) → R (f k) (g k)) → (k : ℕ) → RenValues R vs ws → RenOps R L os ps
    → RenOps R L (casts_back bits f k vs os) (casts_back bits g k ws ps)
casts_back_ren bits f g new k none_values more = more
casts_back_ren bits f g new k (more_values {m = m} {n = n} {t = t} r rest) more = cast_back_ren (f k) (g k) m n t (new_type bits t) (new k) r (casts_back_ren bits f g new (k + 1) rest more)

-- new arguments of blocks whose labels go together
abbrev pub NewArguments : (ℕ → ℕ → Type 0) → (ℕ → ℕ → Type 0) → (ℕ → ℕ → ℕ) → (ℕ → ℕ → ℕ) → Type 0
NewArguments R L f g = (l m : ℕ) → L l m → (k : ℕ) → R (f l k) (g m k)

mutual
  pub op_blocks_ren : {R L : ℕ → ℕ → Type 0} {o p : Op} (bits : ℕ) (f g : ℕ → ℕ → ℕ) → NewArguments R L f g → RenOp R L o p → RenOp R L (op_blocks bits f o) (op_blocks bits g p)
  op_blocks_ren bits f g new (ren_op vs os r ls) = ren_op vs os (regions_blocks_ren bits f g new r) ls

  pub ops_blocks_ren : {R L : ℕ → ℕ → Type 0} {o p : Ops} (bits : ℕ) (f g : ℕ → ℕ → ℕ) → NewArguments R L f g → RenOps R L o p → RenOps R L (ops_blocks bits f o) (ops_blocks bits g p)
  ops_blocks_ren bits f g new ops_ended = ops_ended
  ops_blocks_ren bits f g new (ren_more o os) = ren_more (op_blocks_ren bits f g new o) (ops_blocks_ren bits f g new os)

  pub regions_blocks_ren : {R L : ℕ → ℕ → Type 0} {o p : Regions} (bits : ℕ) (f g : ℕ → ℕ → ℕ) → NewArguments R L f g → RenRegions R L o p → RenRegions R L (regions_blocks bits f o) (regions_blocks bits g p)
  regions_blocks_ren bits f g new regions_ended = regions_ended
  regions_blocks_ren bits f g new (ren_region b r) = ren_region (blocks_blocks_ren bits f g new true b) (regions_blocks_ren bits f g new r)

  pub blocks_blocks_ren : {R L : ℕ → ℕ → Type 0} {o p : Blocks} (bits : ℕ) (f g : ℕ → ℕ → ℕ) → NewArguments R L f g → (is_first : Bool) → RenBlocks R L o p → RenBlocks R L (blocks_blocks bits f is_first o) (blocks_blocks bits g is_first p)
  blocks_blocks_ren bits f g new is_first blocks_ended = blocks_ended
  blocks_blocks_ren bits f g new true (ren_block l vs os b) = ren_block l vs (ops_blocks_ren bits f g new os) (blocks_blocks_ren bits f g new false b)
  blocks_blocks_ren bits f g new false (ren_block {l = l} {m = m} r vs os b) =
      ren_block r (arguments_ren bits (f l) (g m) (new l m r) 0 vs) (casts_back_ren bits (f l) (g m) (new l m r) 0 vs (ops_blocks_ren bits f g new os)) (blocks_blocks_ren bits f g new false b)
