-- The other rules are kept where the uses of a number become uses of another one of its type.
use Rattle.std.proofs.Common.{◌≡◌, ℕ, ◌+◌, ◌==◌, Bool, true, false, List, [], ◌∷◌, ◌++◌, Option, Some, None, refl, sym, ap, ◌∙◌, subst, map}
use Rattle.std.specs.Prelude.{◌&&◌, if◌then◌else◌}
use Rattle.std.specs.List.{list_all}
use Rattle.std.specs.Option.{option_map}
use Rattle.std.proofs.lemmas.Bool.{eqb-true}
use Rattle.plain_tree.specs.Types.{PlainType}
use Rattle.plain_tree.specs.Ops.{Kind, Op, op, Ops, end_of_ops, more_ops, Regions, end_of_regions, region, Blocks, end_of_blocks, block, PlainBlock, Values}
use Rattle.plain_tree.specs.Values.{blocks_values, op_values, ops_values, regions_values}
use Rattle.rule_model.specs.Words.{block_of, has, is_first, numbers, types}
use Rattle.rule_model.specs.Chains.{blocks_operands, blocks_used, by_way_of, Chain, op_operands, op_used, ops_operands, ops_used, regions_operands, regions_used, uses}
use Rattle.rule_model.specs.Facts.{Functions, Head, heads, Holder, is_end, last_in, last_name, regions_heads, Target, target}
use Rattle.rule_model.specs.Formed.{are_formed_blocks, are_formed_ops, are_formed_regions, are_formed_values, are_once, blocks_labels, is_formed_function, is_formed_here, is_formed_op, is_function_name, is_inner_name, op_labels, ops_labels, own_labels, regions_labels}
use Rattle.rule_model.specs.Rules.{keeps}
use Rattle.rule_model.specs.Sites.{holds}
use Rattle.rule_model.proofs.Numbers.{and_first, and_second}
use Rattle.conversion_model.specs.Uses.{blocks_uses, op_uses, ops_uses, regions_uses, replaced}
use Rattle.line_rules.specs.Kept.{KeptBlocks, KeptOp, KeptOps, KeptRegions}
use Rattle.line_rules.proofs.LinedTests.{facts_with}
use Rattle.line_rules.proofs.SameTypes.{and_true}
use Rattle.kept_rules.proofs.SubstitutedScopes.{Was, was_of}

-- Values and labels stay

mutual
  pub op_values_same : (to : ℕ → ℕ) (o : Op) (more : Values) → op_values (op_uses to o) more ≡ op_values o more
  op_values_same to (op k rs os r ls) more = ap (λ vs. rs ++ vs) (regions_values_same to r more)

  ops_values_same : (to : ℕ → ℕ) (os : Ops) (more : Values) → ops_values (ops_uses to os) more ≡ ops_values os more
  ops_values_same to end_of_ops more = refl
  ops_values_same to (more_ops o os) more = ap (λ vs. op_values (op_uses to o) vs) (ops_values_same to os more) ∙ op_values_same to o (ops_values os more)

  regions_values_same : (to : ℕ → ℕ) (rs : Regions) (more : Values) → regions_values (regions_uses to rs) more ≡ regions_values rs more
  regions_values_same to end_of_regions more = refl
  regions_values_same to (region b r) more = ap (λ vs. blocks_values (blocks_uses to b) vs) (regions_values_same to r more) ∙ blocks_values_same to b (regions_values r more)

  blocks_values_same : (to : ℕ → ℕ) (bs : Blocks) (more : Values) → blocks_values (blocks_uses to bs) more ≡ blocks_values bs more
  blocks_values_same to end_of_blocks more = refl
  blocks_values_same to (block l args ops b) more =
      ap (λ vs. args ++ ops_values (ops_uses to ops) vs) (blocks_values_same to b more) ∙ ap (λ vs. args ++ vs) (ops_values_same to ops (blocks_values b more))

mutual
  op_labels_same : (to : ℕ → ℕ) (o : Op) → op_labels (op_uses to o) ≡ op_labels o
  op_labels_same to (op k rs os r ls) = regions_labels_same to r

  ops_labels_same : (to : ℕ → ℕ) (os : Ops) → ops_labels (ops_uses to os) ≡ ops_labels os
  ops_labels_same to end_of_ops = refl
  ops_labels_same to (more_ops o os) = ap (λ ls. ls ++ ops_labels (ops_uses to os)) (op_labels_same to o) ∙ ap (λ ls. op_labels o ++ ls) (ops_labels_same to os)

  regions_labels_same : (to : ℕ → ℕ) (rs : Regions) → regions_labels (regions_uses to rs) ≡ regions_labels rs
  regions_labels_same to end_of_regions = refl
  regions_labels_same to (region b r) = ap (λ ls. ls ++ regions_labels (regions_uses to r)) (blocks_labels_same to b) ∙ ap (λ ls. blocks_labels b ++ ls) (regions_labels_same to r)

  blocks_labels_same : (to : ℕ → ℕ) (bs : Blocks) → blocks_labels (blocks_uses to bs) ≡ blocks_labels bs
  blocks_labels_same to end_of_blocks = refl
  blocks_labels_same to (block l args ops b) =
      ap (λ ls. l ∷ (ls ++ blocks_labels (blocks_uses to b))) (ops_labels_same to ops) ∙ ap (λ ls. l ∷ (ops_labels ops ++ ls)) (blocks_labels_same to b)

own_labels_same : (to : ℕ → ℕ) (bs : Blocks) → own_labels (blocks_uses to bs) ≡ own_labels bs
own_labels_same to end_of_blocks = refl
own_labels_same to (block l args ops b) = ap (λ ls. l ∷ ls) (own_labels_same to b)

-- The function stays formed

operands_formed : (to : ℕ → ℕ) (defined os : List ℕ) → ((x : ℕ) → has x defined ≡ true → has (to x) defined ≡ true) → list_all (λ v. has v defined) os ≡ true → list_all (λ v. has v defined) (map to os) ≡ true
operands_formed to defined [] keep e = refl
operands_formed to defined (o ∷ os) keep e =
    and_true (has (to o) defined) _ (keep o (and_first (has o defined) _ e)) (operands_formed to defined os keep (and_second (has o defined) _ e))

mutual
  op_formed : (to : ℕ → ℕ) (defined labels : List ℕ) (o : Op) → ((x : ℕ) → has x defined ≡ true → has (to x) defined ≡ true) → is_formed_op defined labels o ≡ true → is_formed_op defined labels (op_uses to o) ≡ true
  op_formed to defined labels (op k rs os r ls) keep e =
      let parts = and_second (is_inner_name k.name) _ e in
      let own = and_first (is_formed_here defined labels k rs os ls) _ parts in
      and_true (is_inner_name k.name) _ (and_first (is_inner_name k.name) _ e)
      (and_true (is_formed_here defined labels k rs (map to os) ls) _
      (and_true (list_all (λ v. has v defined) (map to os)) _ (operands_formed to defined os keep (and_first (list_all (λ v. has v defined) os) _ own)) (and_second (list_all (λ v. has v defined) os) _ own))
      (regions_formed to defined r keep (and_second (is_formed_here defined labels k rs os ls) _ parts)))

  ops_formed : (to : ℕ → ℕ) (defined labels : List ℕ) (os : Ops) → ((x : ℕ) → has x defined ≡ true → has (to x) defined ≡ true) → are_formed_ops defined labels os ≡ true → are_formed_ops defined labels (ops_uses to os) ≡ true
  ops_formed to defined labels end_of_ops keep e = refl
  ops_formed to defined labels (more_ops o os) keep e =
      and_true (is_formed_op defined labels (op_uses to o)) _ (op_formed to defined labels o keep (and_first (is_formed_op defined labels o) _ e)) (ops_formed to defined labels os keep (and_second (is_formed_op defined labels o) _ e))

  pub regions_formed : (to : ℕ → ℕ) (defined : List ℕ) (rs : Regions) → ((x : ℕ) → has x defined ≡ true → has (to x) defined ≡ true) → are_formed_regions defined rs ≡ true → are_formed_regions defined (regions_uses to rs) ≡ true
  regions_formed to defined end_of_regions keep e = refl
  regions_formed to defined (region b r) keep e =
      and_true (are_formed_blocks defined (own_labels (blocks_uses to b)) (blocks_uses to b)) _
      (subst (λ ls. are_formed_blocks defined ls (blocks_uses to b) ≡ true) (sym (own_labels_same to b)) (blocks_formed to defined (own_labels b) b keep (and_first (are_formed_blocks defined (own_labels b) b) _ e)))
      (regions_formed to defined r keep (and_second (are_formed_blocks defined (own_labels b) b) _ e))

  blocks_formed : (to : ℕ → ℕ) (defined labels : List ℕ) (bs : Blocks) → ((x : ℕ) → has x defined ≡ true → has (to x) defined ≡ true) → are_formed_blocks defined labels bs ≡ true → are_formed_blocks defined labels (blocks_uses to bs) ≡ true
  blocks_formed to defined labels end_of_blocks keep e = refl
  blocks_formed to defined labels (block l args ops b) keep e =
      let parts = and_second (are_formed_values args) _ e in
      and_true (are_formed_values args) _ (and_first (are_formed_values args) _ e)
      (and_true (are_formed_ops defined labels (ops_uses to ops)) _ (ops_formed to defined labels ops keep (and_first (are_formed_ops defined labels ops) _ parts)) (blocks_formed to defined labels b keep (and_second (are_formed_ops defined labels ops) _ parts)))

pub function_formed : (to : ℕ → ℕ) (f : Op) → ((x : ℕ) → has x (numbers (op_values f [])) ≡ true → has (to x) (numbers (op_values f [])) ≡ true) → is_formed_function f ≡ true → is_formed_function (op_uses to f) ≡ true
function_formed to (op k rs os r ls) keep e =
    let defined : List ℕ = numbers (op_values (op k rs os r ls) []) in
    let behind : List ℕ = numbers (op_values (op_uses to (op k rs os r ls)) []) in
    let same : behind ≡ defined = ap numbers (op_values_same to (op k rs os r ls) []) in
    let p1 = and_second (is_function_name k.name) _ e in
    let p2 = and_second (are_once defined) _ p1 in
    let p3 = and_second (are_once (regions_labels r)) _ p2 in
    let own = and_first (is_formed_here defined [] k rs os ls) _ p3 in
    and_true (is_function_name k.name) _ (and_first (is_function_name k.name) _ e)
    (and_true (are_once behind) _ (ap are_once same ∙ and_first (are_once defined) _ p1)
    (and_true (are_once (regions_labels (regions_uses to r))) _ (ap are_once (regions_labels_same to r) ∙ and_first (are_once (regions_labels r)) _ p2)
    (subst (λ d. (is_formed_here d [] k rs (map to os) ls && are_formed_regions d (regions_uses to r)) ≡ true) (sym same)
    (and_true (is_formed_here defined [] k rs (map to os) ls) _
    (and_true (list_all (λ v. has v defined) (map to os)) _ (operands_formed to defined os keep (and_first (list_all (λ v. has v defined) os) _ own)) (and_second (list_all (λ v. has v defined) os) _ own))
    (regions_formed to defined r keep (and_second (is_formed_here defined [] k rs os ls) _ p3))))))

-- The tests

last_name_same : (to : ℕ → ℕ) (name : List ℕ) (os : Ops) → last_name name (ops_uses to os) ≡ last_name name os
last_name_same to name end_of_ops = refl
last_name_same to name (more_ops (op k rs os r ls) rest) = last_name_same to k.name rest

last_same : (to : ℕ → ℕ) (os : Ops) → last_in (ops_uses to os) ≡ last_in os
last_same to end_of_ops = refl
last_same to (more_ops (op k rs os r ls) rest) = ap Some (last_name_same to k.name rest)

heads_same : (to : ℕ → ℕ) (bs : Blocks) → heads (blocks_uses to bs) ≡ heads bs
heads_same to end_of_blocks = refl
heads_same to (block l args ops more) = ap (λ x. head_of (types args) x ∷ heads (blocks_uses to more)) (last_same to ops) ∙ ap (λ hs. head_of (types args) (last_in ops) ∷ hs) (heads_same to more)
  where
    head_of : List PlainType → Option (List ℕ) → Head
    head_of args2 last = record { args = args2; last = last }

regions_heads_same : (to : ℕ → ℕ) (rs : Regions) → regions_heads (regions_uses to rs) ≡ regions_heads rs
regions_heads_same to end_of_regions = refl
regions_heads_same to (region b r) = ap (λ x. x ∷ regions_heads (regions_uses to r)) (heads_same to b) ∙ ap (λ xs. heads b ∷ xs) (regions_heads_same to r)

end_same : (to : ℕ → ℕ) (os : Ops) → is_end (ops_uses to os) ≡ is_end os
end_same to end_of_ops = refl
end_same to (more_ops o os) = refl

abbrev args_at : Option PlainBlock → Option (List PlainType)
args_at o = option_map (λ (b : PlainBlock). types b.args) o

args_same : (to : ℕ → ℕ) (l : ℕ) (bs : Blocks) → args_at (block_of l (blocks_uses to bs)) ≡ args_at (block_of l bs)
args_same to l end_of_blocks = refl
args_same to l (block m args ops more) = go (m == l) (args_same to l more)
  where
    go : (x : Bool) → args_at (block_of l (blocks_uses to more)) ≡ args_at (block_of l more)
        → args_at (if x then Some (record { label = m; args = args; ops = ops_uses to ops }) else block_of l (blocks_uses to more)) ≡ args_at (if x then Some (record { label = m; args = args; ops = ops }) else block_of l more)
    go true e = refl
    go false e = e

first_same : (to : ℕ → ℕ) (l : ℕ) (bs : Blocks) → is_first l (blocks_uses to bs) ≡ is_first l bs
first_same to l end_of_blocks = refl
first_same to l (block m args ops more) = refl

target_same : (to : ℕ → ℕ) (bs : Blocks) (l : ℕ) → target (blocks_uses to bs) l ≡ target bs l
target_same to bs l = ap (λ x. target_of x (is_first l (blocks_uses to bs))) (args_same to l bs) ∙ ap (λ x. target_of (args_at (block_of l bs)) x) (first_same to l bs)
  where
    target_of : Option (List PlainType) → Bool → Target
    target_of args first = record { args = args; first = first }

targets_same : (to : ℕ → ℕ) (bs : Blocks) (ls : List ℕ) → map (target (blocks_uses to bs)) ls ≡ map (target bs) ls
targets_same to bs [] = refl
targets_same to bs (l ∷ ls) = ap (λ t. t ∷ map (target (blocks_uses to bs)) ls) (target_same to bs l) ∙ ap (λ ts. target bs l ∷ ts) (targets_same to bs ls)

types_same : (to : ℕ → ℕ) (T : ℕ → PlainType) (os : List ℕ) → ((x : ℕ) → T (to x) ≡ T x) → map T (map to os) ≡ map T os
types_same to T [] same = refl
types_same to T (o ∷ os) same = ap (λ t. t ∷ map T (map to os)) (same o) ∙ ap (λ ts. T o ∷ ts) (types_same to T os same)

abbrev holder_with : Kind → List PlainType → List PlainType → ℕ → Holder
holder_with k operands results n = record { name = k.name; props = k.props; operands = operands; results = results; region = n }

mutual
  op_tests : (to : ℕ → ℕ) (T : ℕ → PlainType) (same : (x : ℕ) → T (to x) ≡ T x) (c : Functions) (h : Option Holder) (bs : Blocks) (rest : Ops) (o : Op) → KeptOp c T h bs rest o → KeptOp c T h (blocks_uses to bs) (ops_uses to rest) (op_uses to o)
  op_tests to T same c h bs rest (op k rs os r ls) kept = (
    λ q. subst (λ f. keeps c f q ≡ true)
        (sym (
        ap (λ x. facts_with k x (types rs) (map (target (blocks_uses to bs)) ls) (regions_heads (regions_uses to r)) h (is_end (ops_uses to rest))) (types_same to T os same)
        ∙ ap (λ x. facts_with k (map T os) (types rs) x (regions_heads (regions_uses to r)) h (is_end (ops_uses to rest))) (targets_same to bs ls)
        ∙ ap (λ x. facts_with k (map T os) (types rs) (map (target bs) ls) x h (is_end (ops_uses to rest))) (regions_heads_same to r)
        ∙ ap (λ x. facts_with k (map T os) (types rs) (map (target bs) ls) (regions_heads r) h x) (end_same to rest)
        ))
        (kept.0 q),
    regions_tests to T same c (holds T (op k rs os r ls)) (holds T (op_uses to (op k rs os r ls))) 0 r (λ m. ap (λ x. holder_with k x (types rs) m) (types_same to T os same)) kept.1,
  )

  ops_tests : (to : ℕ → ℕ) (T : ℕ → PlainType) (same : (x : ℕ) → T (to x) ≡ T x) (c : Functions) (h : Option Holder) (bs : Blocks) (os : Ops) → KeptOps c T h bs os → KeptOps c T h (blocks_uses to bs) (ops_uses to os)
  ops_tests to T same c h bs end_of_ops kept = tt
  ops_tests to T same c h bs (more_ops o rest) kept = (op_tests to T same c h bs rest o kept.0, ops_tests to T same c h bs rest kept.1)

  regions_tests : (to : ℕ → ℕ) (T : ℕ → PlainType) (same : (x : ℕ) → T (to x) ≡ T x) (c : Functions) (hold other : ℕ → Holder) (m : ℕ) (rs : Regions) → ((i : ℕ) → other i ≡ hold i) → KeptRegions c T hold m rs → KeptRegions c T other m (regions_uses to rs)
  regions_tests to T same c hold other m end_of_regions e kept = tt
  regions_tests to T same c hold other m (region b r) e kept = (
    subst (λ x. KeptBlocks c T (Some x) (blocks_uses to b) (blocks_uses to b)) (sym (e m)) (blocks_tests to T same c (Some (hold m)) b b kept.0),
    regions_tests to T same c hold other (m + 1) r e kept.1,
  )

  blocks_tests : (to : ℕ → ℕ) (T : ℕ → PlainType) (same : (x : ℕ) → T (to x) ≡ T x) (c : Functions) (h : Option Holder) (bs cs : Blocks) → KeptBlocks c T h bs cs → KeptBlocks c T h (blocks_uses to bs) (blocks_uses to cs)
  blocks_tests to T same c h bs end_of_blocks kept = tt
  blocks_tests to T same c h bs (block l args ops more) kept = (ops_tests to T same c h bs ops kept.0, blocks_tests to T same c h bs more kept.1)

pub function_tests : (to : ℕ → ℕ) (T : ℕ → PlainType) (c : Functions) (f : Op) → ((x : ℕ) → T (to x) ≡ T x) → KeptOp c T None end_of_blocks end_of_ops f → KeptOp c T None end_of_blocks end_of_ops (op_uses to f)
function_tests to T c f same kept = op_tests to T same c None end_of_blocks end_of_ops f kept

-- Own uses

map_joined : (to : ℕ → ℕ) (xs ys : List ℕ) → map to (xs ++ ys) ≡ map to xs ++ map to ys
map_joined to [] ys = refl
map_joined to (x ∷ xs) ys = ap (λ l. to x ∷ l) (map_joined to xs ys)

mutual
  pub op_operands_map : (to : ℕ → ℕ) (o : Op) → op_operands (op_uses to o) ≡ map to (op_operands o)
  op_operands_map to (op k rs os r ls) = ap (λ l. map to os ++ l) (regions_operands_map to r) ∙ sym (map_joined to os (regions_operands r))

  ops_operands_map : (to : ℕ → ℕ) (os : Ops) → ops_operands (ops_uses to os) ≡ map to (ops_operands os)
  ops_operands_map to end_of_ops = refl
  ops_operands_map to (more_ops o os) =
      ap (λ l. l ++ ops_operands (ops_uses to os)) (op_operands_map to o) ∙ ap (λ l. map to (op_operands o) ++ l) (ops_operands_map to os) ∙ sym (map_joined to (op_operands o) (ops_operands os))

  regions_operands_map : (to : ℕ → ℕ) (rs : Regions) → regions_operands (regions_uses to rs) ≡ map to (regions_operands rs)
  regions_operands_map to end_of_regions = refl
  regions_operands_map to (region b r) =
      ap (λ l. l ++ regions_operands (regions_uses to r)) (blocks_operands_map to b) ∙ ap (λ l. map to (blocks_operands b) ++ l) (regions_operands_map to r) ∙ sym (map_joined to (blocks_operands b) (regions_operands r))

  blocks_operands_map : (to : ℕ → ℕ) (bs : Blocks) → blocks_operands (blocks_uses to bs) ≡ map to (blocks_operands bs)
  blocks_operands_map to end_of_blocks = refl
  blocks_operands_map to (block l args ops b) =
      ap (λ m. m ++ blocks_operands (blocks_uses to b)) (ops_operands_map to ops) ∙ ap (λ m. map to (ops_operands ops) ++ m) (blocks_operands_map to b) ∙ sym (map_joined to (ops_operands ops) (blocks_operands b))

if_map : (to : ℕ → ℕ) (b : Bool) (xs : List ℕ) → (if b then map to xs else []) ≡ map to (if b then xs else [])
if_map to true xs = refl
if_map to false xs = refl

mutual
  op_used_map : (to : ℕ → ℕ) (v : ℕ) (o : Op) → op_used v (op_uses to o) ≡ map to (op_used v o)
  op_used_map to v (op k rs os r ls) =
      ap (λ l. (if has v (numbers rs) then l else []) ++ regions_used v (regions_uses to r)) (op_operands_map to (op k rs os r ls))
      ∙ ap (λ l. l ++ regions_used v (regions_uses to r)) (if_map to (has v (numbers rs)) (os ++ regions_operands r))
      ∙ ap (λ l. map to (if has v (numbers rs) then os ++ regions_operands r else []) ++ l) (regions_used_map to v r)
      ∙ sym (map_joined to (if has v (numbers rs) then os ++ regions_operands r else []) (regions_used v r))

  ops_used_map : (to : ℕ → ℕ) (v : ℕ) (os : Ops) → ops_used v (ops_uses to os) ≡ map to (ops_used v os)
  ops_used_map to v end_of_ops = refl
  ops_used_map to v (more_ops o os) =
      ap (λ l. l ++ ops_used v (ops_uses to os)) (op_used_map to v o) ∙ ap (λ l. map to (op_used v o) ++ l) (ops_used_map to v os) ∙ sym (map_joined to (op_used v o) (ops_used v os))

  regions_used_map : (to : ℕ → ℕ) (v : ℕ) (rs : Regions) → regions_used v (regions_uses to rs) ≡ map to (regions_used v rs)
  regions_used_map to v end_of_regions = refl
  regions_used_map to v (region b r) =
      ap (λ l. l ++ regions_used v (regions_uses to r)) (blocks_used_map to v b) ∙ ap (λ l. map to (blocks_used v b) ++ l) (regions_used_map to v r) ∙ sym (map_joined to (blocks_used v b) (regions_used v r))

  blocks_used_map : (to : ℕ → ℕ) (v : ℕ) (bs : Blocks) → blocks_used v (blocks_uses to bs) ≡ map to (blocks_used v bs)
  blocks_used_map to v end_of_blocks = refl
  blocks_used_map to v (block l args ops b) =
      ap (λ m. m ++ blocks_used v (blocks_uses to b)) (ops_used_map to v ops) ∙ ap (λ m. map to (ops_used v ops) ++ m) (blocks_used_map to v b) ∙ sym (map_joined to (ops_used v ops) (blocks_used v b))

chain_joined : {f : Op} {v x w : ℕ} → Chain f v x → Chain f x w → Chain f v w
chain_joined {x = x} (uses h) c = by_way_of x h c
chain_joined (by_way_of y h d) c = by_way_of y h (chain_joined d c)

-- a use of u in the place of r was one over r and w
edge_chain : (f : Op) (r w u v x : ℕ) → has w (op_used r f) ≡ true → has u (op_used w f) ≡ true → has x (op_used v (op_uses (replaced r u) f)) ≡ true → Chain f v x
edge_chain f r w u v x rw wu h =
    let y = was_of (replaced r u) (op_used v f) x (sym (ap (λ l. has x l) (op_used_map (replaced r u) v f)) ∙ h) in
    go y (y.number == r) refl y.is
  where
    go : (y : Was (replaced r u) (op_used v f) x) (b : Bool) → (y.number == r) ≡ b → (if b then u else y.number) ≡ x → Chain f v x
    go y true e is = by_way_of r (subst (λ n. has n (op_used v f) ≡ true) (eqb-true y.number r e) y.among) (by_way_of w rw (uses (subst (λ n. has n (op_used w f) ≡ true) is wu)))
    go y false e is = uses (subst (λ n. has n (op_used v f) ≡ true) is y.among)

chains_back : (f : Op) (r w u : ℕ) {v x : ℕ} → has w (op_used r f) ≡ true → has u (op_used w f) ≡ true → Chain (op_uses (replaced r u) f) v x → Chain f v x
chains_back f r w u {v = v} {x = x} rw wu (uses h) = edge_chain f r w u v x rw wu h
chains_back f r w u {v = v} rw wu (by_way_of y h c) = chain_joined (edge_chain f r w u v y rw wu h) (chains_back f r w u rw wu c)

pub function_own : (f : Op) (r w u : ℕ) → has w (op_used r f) ≡ true → has u (op_used w f) ≡ true → ((v : ℕ) → Chain f v v → ⊥) → (v : ℕ) → Chain (op_uses (replaced r u) f) v v → ⊥
function_own f r w u rw wu never v c = never v (chains_back f r w u rw wu c)
