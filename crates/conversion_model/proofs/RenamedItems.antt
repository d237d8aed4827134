-- Renaming: the items of a tree, and regions made of them.
use Rattle.std.proofs.Common.{◌≡◌, ℕ, ◌+◌, ◌==◌, Bool, true, false, List, [], ◌∷◌, Option, Some, None, ap, subst}
use Rattle.std.specs.Prelude.{◌&&◌, pred, if◌then◌else◌}
use Rattle.plain_tree.specs.Ops.{Op, op, Ops, Regions, Blocks, Values}
use Rattle.conversion_model.specs.Targets.{Shape, goes_with_holder, name_of, shape_with}
use Rattle.conversion_model.specs.Rows.{Piece}
use Rattle.conversion_model.specs.Items.{From, HeldBlock, Item, Puts, Begins, Text, Ways, blocks_size, cut, held_at, held_blocks, held_in, held_regions, items, op_at, op_items, op_size, ops_size, puts, text_of, whole_items, whole_regions}
use Rattle.conversion_model.specs.Renamings.{none_all, more_all, RenValues, none_values, more_values, RenOp, ren_op, RenOps, ops_ended, ren_more, RenRegions, regions_ended, ren_region, RenBlocks, blocks_ended, ren_block, RenPieces, pieces_ended, ren_product, ren_opens, ren_held, ren_stands}
use Rattle.conversion_model.proofs.RenamedTypes.{blocks_sizes, name_same, op_sizes, ops_sizes, shape_same}
use Rattle.conversion_model.proofs.RenamedLines.{RenList, list_ended, list_more}

pub data RenItems (R L : ℕ → ℕ → Type 0) : List Item → List Item → Type 0 where
  items_ended : RenItems R L [] []
  ren_puts : {o p : Op} {xs ys : List Item} → RenOp R L o p → RenItems R L xs ys → RenItems R L (Puts o ∷ xs) (Puts p ∷ ys)
  ren_begins : {l m : ℕ} {vs ws : Values} {xs ys : List Item} → L l m → RenValues R vs ws → RenItems R L xs ys → RenItems R L (Begins l vs ∷ xs) (Begins m ws ∷ ys)

-- from items that go together to items that go together
abbrev pub InFront : (ℕ → ℕ → Type 0) → (ℕ → ℕ → Type 0) → (List Item → List Item) → (List Item → List Item) → Type 0
InFront R L f g = (xs ys : List Item) → RenItems R L xs ys → RenItems R L (f xs) (g ys)

pub record RenHeld (R L : ℕ → ℕ → Type 0) (a b : HeldBlock) : Type 0 where
  pub label : L a.label b.label
  pub args : RenValues R a.args b.args
  pub held : InFront R L a.held b.held
  pub whole : InFront R L a.whole b.whole

pub data RenHolds (R L : ℕ → ℕ → Type 0) : List HeldBlock → List HeldBlock → Type 0 where
  holds_ended : RenHolds R L [] []
  more_holds : {a b : HeldBlock} {hs ks : List HeldBlock} → RenHeld R L a b → RenHolds R L hs ks → RenHolds R L (a ∷ hs) (b ∷ ks)

pub data RenHeldRegions (R L : ℕ → ℕ → Type 0) : List (List HeldBlock) → List (List HeldBlock) → Type 0 where
  held_ended : RenHeldRegions R L [] []
  more_held : {a b : List HeldBlock} {hs ks : List (List HeldBlock)} → RenHolds R L a b → RenHeldRegions R L hs ks → RenHeldRegions R L (a ∷ hs) (b ∷ ks)

pub data RenWay (R L : ℕ → ℕ → Type 0) : Option (ℕ × List Piece) → Option (ℕ × List Piece) → Type 0 where
  no_way : RenWay R L None None
  ren_way : {place : ℕ} {xs ys : List Piece} → RenPieces R L xs ys → RenWay R L (Some (place, xs)) (Some (place, ys))

pub record RenWays (R L : ℕ → ℕ → Type 0) (v w : Ways) : Type 0 where
  pub cuts : (n : ℕ) (o p : Op) → RenOp R L o p → RenWay R L (v.cuts n o) (w.cuts n p)
  pub line : (from : From) (shape : Shape) (o p : Op) → RenOp R L o p → RenList R L (v.line from shape o) (w.line from shape p)
  pub shape : (o p : Op) → RenOp R L o p → v.shape o ≡ w.shape p

pub puts_ren : {R L : ℕ → ℕ → Type 0} {os ps : List Op} {xs ys : List Item} → RenList R L os ps → RenItems R L xs ys → RenItems R L (puts os xs) (puts ps ys)
puts_ren list_ended more = more
puts_ren (list_more o os) more = ren_puts o (puts_ren os more)

by_place : {R L : ℕ → ℕ → Type 0} {x y z w : List Item} (b : Bool) → RenItems R L x z → RenItems R L y w → RenItems R L (if b then x else y) (if b then z else w)
by_place true p q = p
by_place false p q = q

held_in_ren : {R L : ℕ → ℕ → Type 0} {hs ks : List HeldBlock} {xs ys : List Item} (b : ℕ) → RenHolds R L hs ks → RenItems R L xs ys → RenItems R L (held_in b hs xs) (held_in b ks ys)
held_in_ren b holds_ended more = more
held_in_ren {xs = xs} {ys = ys} b (more_holds h rest) more = by_place (b == 0) (h.held xs ys more) (held_in_ren (pred b) rest more)

held_at_ren : {R L : ℕ → ℕ → Type 0} {hs ks : List (List HeldBlock)} {xs ys : List Item} (r b : ℕ) → RenHeldRegions R L hs ks → RenItems R L xs ys → RenItems R L (held_at r b hs xs) (held_at r b ks ys)
held_at_ren r b held_ended more = more
held_at_ren r b (more_held h rest) more = by_place (r == 0) (held_in_ren b h more) (held_at_ren (pred r) b rest more)

cut_ren : {R L : ℕ → ℕ → Type 0} {hs ks : List (List HeldBlock)} {ps qs : List Piece} {xs ys : List Item} (v w : Ways) (n place k : ℕ)
    → RenWays R L v w → RenHeldRegions R L hs ks → RenPieces R L ps qs → RenItems R L xs ys → RenItems R L (cut v n place hs k ps xs) (cut w n place ks k qs ys)
cut_ren v w n place k ways hs pieces_ended more = more
cut_ren {R = R} {L = L} v w n place k ways hs (ren_product {o = o} {p = p} {types = types} r rest) more =
    puts_ren (subst (λ s. RenList R L (v.line (record { number = n; piece = k; path = place ∷ [] }) (shape_with types o) o) (w.line (record { number = n; piece = k; path = place ∷ [] }) s p)) (shape_same types r)
    (ways.line (record { number = n; piece = k; path = place ∷ [] }) (shape_with types o) o p r))
    (cut_ren v w n place (k + 1) ways hs rest more)
cut_ren v w n place k ways hs (ren_opens l vs rest) more = ren_begins l vs (cut_ren v w n place (k + 1) ways hs rest more)
cut_ren v w n place k ways hs (ren_held {r = r} {b = b} rest) more = held_at_ren r b hs (cut_ren v w n place (k + 1) ways hs rest more)
cut_ren v w n place k ways hs (ren_stands r value rest) more =
    ren_puts (ren_op (more_values r none_values) (more_all value none_all) regions_ended none_all) (cut_ren v w n place (k + 1) ways hs rest more)

-- Text

pub record RenText (R L : ℕ → ℕ → Type 0) (a b : Text) : Type 0 where
  pub ops : RenOps R L a.ops b.ops
  pub blocks : RenBlocks R L a.blocks b.blocks

pub text_ren : {R L : ℕ → ℕ → Type 0} {xs ys : List Item} → RenItems R L xs ys → RenText R L (text_of xs) (text_of ys)
text_ren items_ended = record { ops = ops_ended; blocks = blocks_ended }
text_ren (ren_puts o rest) = record { ops = ren_more o (text_ren rest).ops; blocks = (text_ren rest).blocks }
text_ren (ren_begins l vs rest) = record { ops = ops_ended; blocks = ren_block l vs (text_ren rest).ops (text_ren rest).blocks }

pub whole_ren : {R L : ℕ → ℕ → Type 0} {hs ks : List HeldBlock} → RenHolds R L hs ks → RenItems R L (whole_items hs) (whole_items ks)
whole_ren holds_ended = items_ended
whole_ren (more_holds {hs = hs} {ks = ks} h rest) = ren_begins h.label h.args (h.whole (whole_items hs) (whole_items ks) (whole_ren rest))

pub regions_ren : {R L : ℕ → ℕ → Type 0} {hs ks : List (List HeldBlock)} → RenHeldRegions R L hs ks → RenRegions R L (whole_regions hs) (whole_regions ks)
regions_ren held_ended = regions_ended
regions_ren (more_held h rest) = ren_region (text_ren (whole_ren h)).blocks (regions_ren rest)

-- Trees

op_at_ren : {R L : ℕ → ℕ → Type 0} {o p kept other : Op} {c d : Option (ℕ × List Piece)} {hs ks : List (List HeldBlock)} {xs ys : List Item} (v w : Ways) (n : ℕ)
    → RenWays R L v w → RenOp R L o p → RenOp R L kept other → RenWay R L c d → RenHeldRegions R L hs ks → RenItems R L xs ys → RenItems R L (op_at v n o kept c hs xs) (op_at w n p other d ks ys)
op_at_ren {R = R} {L = L} {o = o} {p = p} {kept = kept} {other = other} v w n ways r keeps no_way hs more =
    puts_ren (subst (λ s. RenList R L (v.line (record { number = n; piece = 0; path = [] }) (v.shape o) kept) (w.line (record { number = n; piece = 0; path = [] }) s other)) (ways.shape o p r)
    (ways.line (record { number = n; piece = 0; path = [] }) (v.shape o) kept other keeps)) more
op_at_ren v w n ways r keeps (ren_way {place = place} ps) hs more = cut_ren v w n place 1 ways hs ps more

stops_or : {R L : ℕ → ℕ → Type 0} {x y z w : List Item} (b c : Bool) → b ≡ c → RenItems R L x z → RenItems R L y w → RenItems R L (if b then x else y) (if c then z else w)
stops_or {R = R} {L = L} {x = x} {y = y} {z = z} {w = w} b c same p q = subst (λ d. RenItems R L (if b then x else y) (if d then z else w)) same (by_place b p q)

mutual
  pub items_ren : {R L : ℕ → ℕ → Type 0} {os ps : Ops} (v w : Ways) → RenWays R L v w → (held : Bool) (n : ℕ) → RenOps R L os ps → InFront R L (items v held n os) (items w held n ps)
  items_ren v w ways held n ops_ended xs ys more = more
  items_ren {R = R} {L = L} v w ways held n (ren_more {o = o} {p = p} {os = os} {ps = ps} r rest) xs ys more =
      stops_or (held && goes_with_holder (name_of o)) (held && goes_with_holder (name_of p)) (ap (λ name. held && goes_with_holder name) (name_same r)) more
      (op_items_ren v w ways n r (items v held (n + op_size o) os xs) (items w held (n + op_size p) ps ys)
      (subst (λ k. RenItems R L (items v held (n + op_size o) os xs) (items w held (n + k) ps ys)) (op_sizes r) (items_ren v w ways held (n + op_size o) rest xs ys more)))

  pub op_items_ren : {R L : ℕ → ℕ → Type 0} {o p : Op} (v w : Ways) → RenWays R L v w → (n : ℕ) → RenOp R L o p → InFront R L (op_items v n o) (op_items w n p)
  op_items_ren {R = R} {L = L} v w ways n (ren_op {k = k} {rs = rs} {ss = ss} {os = os} {ps = ps} {r = r} {s = s} {ls = ls} {ms = ms} vs uses regions labels) xs ys more =
      let hs : RenHeldRegions R L (held_regions v (n + 1) r) (held_regions w (n + 1) s) = held_regions_ren v w ways (n + 1) regions in
      op_at_ren v w n ways (ren_op {k = k} vs uses regions labels) (ren_op {k = k} vs uses (regions_ren hs) labels)
      (ways.cuts n (op k rs os r ls) (op k ss ps s ms) (ren_op vs uses regions labels)) hs more

  pub held_regions_ren : {R L : ℕ → ℕ → Type 0} {r s : Regions} (v w : Ways) → RenWays R L v w → (n : ℕ) → RenRegions R L r s → RenHeldRegions R L (held_regions v n r) (held_regions w n s)
  held_regions_ren v w ways n regions_ended = held_ended
  held_regions_ren {R = R} {L = L} v w ways n (ren_region {b = b} {c = c} {r = r} {s = s} blocks rest) =
      more_held (held_blocks_ren v w ways n blocks)
      (subst (λ k. RenHeldRegions R L (held_regions v (n + blocks_size b) r) (held_regions w (n + k) s)) (blocks_sizes blocks) (held_regions_ren v w ways (n + blocks_size b) rest))

  pub held_blocks_ren : {R L : ℕ → ℕ → Type 0} {b c : Blocks} (v w : Ways) → RenWays R L v w → (n : ℕ) → RenBlocks R L b c → RenHolds R L (held_blocks v n b) (held_blocks w n c)
  held_blocks_ren v w ways n blocks_ended = holds_ended
  held_blocks_ren {R = R} {L = L} v w ways n (ren_block {os = os} {ps = ps} {b = b} {c = c} l vs ops rest) =
      more_holds (record { label = l; args = vs; held = items_ren v w ways true n ops; whole = items_ren v w ways false n ops })
      (subst (λ k. RenHolds R L (held_blocks v (n + ops_size os) b) (held_blocks w (n + k) c)) (ops_sizes ops) (held_blocks_ren v w ways (n + ops_size os) rest))
