-- By a table of straight rows, and where there is no copy, the conversion is the tree by recursion.
use Rattle.std.proofs.Common.{◌≡◌, ℕ, ◌+◌, Bool, true, false, List, [], ◌∷◌, ◌++◌, Option, Some, None, map, refl, ap, ◌∙◌}
use Rattle.std.specs.Prelude.{bytes_eq, if◌then◌else◌}
use Rattle.plain_tree.specs.Types.{PlainType}
use Rattle.plain_tree.specs.Ops.{Op, op, Ops, end_of_ops, more_ops, Regions, end_of_regions, region, Blocks, end_of_blocks, block}
use Rattle.plain_tree.specs.Values.{types_of}
use Rattle.conversion_model.specs.Templates.{Template, copy_name}
use Rattle.conversion_model.specs.Targets.{Target, demanded, is_legal, name_of, shape_of}
use Rattle.conversion_model.specs.Rows.{Row, Straight, Cutting, Framing, Pattern, Numbers, Piece}
use Rattle.conversion_model.specs.Chosen.{Leaves, Ranked, and_then, by_row, chosen, goes_before, has_root, in_order, or_else, order, put_in, ranked}
use Rattle.conversion_model.specs.Choice.{Choice, Stays, Cuts, Frames, choice, first_choice, row_choice}
use Rattle.conversion_model.specs.Choice as choices
use Rattle.conversion_model.specs.Items.{Item, Text, Ways, held_blocks, held_regions, items, op_at, op_items, op_size, ops_size, blocks_size, puts, text_of, whole_items, whole_regions}
use Rattle.conversion_model.specs.Uses.{copies_in, copies_left_out, followed, is_copy, op_listed, op_uses, op_without, ops_listed, ops_uses, ops_without, regions_listed, regions_uses, regions_without, blocks_listed, blocks_uses, blocks_without, pair_in}
use Rattle.conversion_model.specs.Conversion.{Pass, Supply, choice_in, function_by, line_of, pieces_of, regions_of, replacements, ways}
use Rattle.conversion_laws.specs.PlainRows.{AllOf, IsStraightRow, StraightTable}
use Rattle.conversion_laws.specs.NewTrees.{new_blocks, new_function, new_op, new_ops, new_regions, ops_front, source_at}

-- No cuts and no frames

put_all : (Q : Ranked → Type 0) (r : Ranked) (rs : List Ranked) → Q r → AllOf Q rs → AllOf Q (put_in r rs)
put_all Q r [] h all = (h, tt)
put_all Q r (s ∷ rs) h all = go (goes_before s r) (put_all Q r rs h all.1)
  where
    go : (b : Bool) → AllOf Q (put_in r rs) → AllOf Q (if b then s ∷ put_in r rs else r ∷ s ∷ rs)
    go true behind = (all.0, behind)
    go false behind = (h, all)

pub order_all : (Q : Ranked → Type 0) (rs : List Ranked) → AllOf Q rs → AllOf Q (in_order rs)
order_all Q [] all = tt
order_all Q (r ∷ rs) all = put_all Q r (in_order rs) all.0 (order_all Q rs all.1)

ranked_all : (Q : Pattern → Type 0) (depth : Pattern → Option ℕ) (name : List ℕ) (place : ℕ) (ps : List Pattern) → AllOf Q ps → AllOf (λ (r : Ranked). Q r.pattern) (ranked depth name place ps)
ranked_all Q depth name place [] all = tt
ranked_all Q depth name place (p ∷ ps) all = go (has_root name p) (ranked_all Q depth name (place + 1) ps all.1)
  where
    go : (b : Bool) → AllOf (λ (r : Ranked). Q r.pattern) (ranked depth name (place + 1) ps)
        → AllOf (λ (r : Ranked). Q r.pattern) (if b then record { pattern = p; place = place; depth = depth p } ∷ ranked depth name (place + 1) ps else ranked depth name (place + 1) ps)
    go true behind = (all.0, behind)
    go false behind = behind

-- of each pattern in its order
pub order_of_all : (Q : Pattern → Type 0) (target : Target) (table : List Pattern) (name : List ℕ) → AllOf Q table → AllOf (λ (r : Ranked). Q r.pattern) (order target table name)
order_of_all Q target table name all = order_all (λ r. Q r.pattern) _ (ranked_all Q _ name 0 table all)

abbrev IsLine : Option Choice → Type 0
IsLine None = Unit {0}
IsLine (Some Stays) = Unit {0}
IsLine (Some (choices.Line t)) = Unit {0}
IsLine (Some (Cuts place ps)) = ⊥
IsLine (Some (Frames f t)) = ⊥

line_or : (a b : Option Choice) → IsLine a → IsLine b → IsLine (or_else a b)
line_or None b x y = y
line_or (Some c) b x y = x

row_line : (bits : ℕ) (is_converted : Bool) (leaves : Leaves) (new : Numbers) (type_of : ℕ → PlainType) (o : Op) (place : ℕ) (row : Row) → IsStraightRow row → IsLine (row_choice bits is_converted leaves new type_of o place row)
row_line bits is_converted leaves new type_of o place (Straight row) s = go (by_row bits is_converted leaves (shape_of type_of o) (Straight row))
  where
    go : (x : Option Template) → IsLine (and_then x (λ t. Some (choices.Line t)))
    go None = tt
    go (Some t) = tt
row_line bits is_converted leaves new type_of o place (Cutting row) s = absurd s
row_line bits is_converted leaves new type_of o place (Framing row) s = absurd s

first_line : (bits : ℕ) (leaves : List ℕ → Leaves) (new : Numbers) (type_of : ℕ → PlainType) (o : Op) (rs : List Ranked) → AllOf (λ (r : Ranked). IsStraightRow (r.pattern.row bits)) rs → IsLine (first_choice bits leaves new type_of o rs)
first_line bits leaves new type_of o [] all = tt
first_line bits leaves new type_of o (r ∷ rs) all =
    line_or _ _ (row_line bits r.pattern.is_converted (leaves (r.place ∷ [])) new type_of o r.place (r.pattern.row bits) all.0) (first_line bits leaves new type_of o rs all.1)

choice_line : (bits : ℕ) (target : Target) (table : List Pattern) (new : Numbers) (type_of : ℕ → PlainType) (o : Op) → StraightTable bits table → IsLine (choice bits target table new type_of o)
choice_line bits target table new type_of o straight =
    go (is_legal target (shape_of type_of o)) (first_line bits (chosen bits target table) new type_of o (order target table (name_of o)) (order_of_all (λ p. IsStraightRow (p.row bits)) target table (name_of o) straight))
  where
    go : (b : Bool) → IsLine (first_choice bits (chosen bits target table) new type_of o (order target table (name_of o)))
        → IsLine (if b then Some Stays else first_choice bits (chosen bits target table) new type_of o (order target table (name_of o)))
    go true h = tt
    go false h = h

no_pieces : (c : Option Choice) → IsLine c → pieces_of c ≡ None
no_pieces None h = refl
no_pieces (Some Stays) h = refl
no_pieces (Some (choices.Line t)) h = refl
no_pieces (Some (Cuts place ps)) h = absurd h
no_pieces (Some (Frames f t)) h = absurd h

-- Items

module _ (p : Pass) (bits : ℕ) (new : Supply) (ty : ℕ → PlainType) where
  abbrev w : Ways
  w = ways p bits new ty

  module _ (straight : StraightTable bits p.table) where
    no_cuts : (n : ℕ) (o : Op) → w.cuts n o ≡ None
    no_cuts n o = go (demanded p.mode p.target (shape_of ty o))
      where
        go : (b : Bool) → (if b then pieces_of (choice_in p bits new ty n o) else None) ≡ None
        go true = no_pieces (choice_in p bits new ty n o) (choice_line bits p.target p.table (new.row n) ty o straight)
        go false = refl

    puts_text : (line : List Op) (more : List Item) → text_of (puts line more) ≡ record { ops = ops_front line (text_of more).ops; blocks = (text_of more).blocks }
    puts_text [] more = refl
    puts_text (o ∷ line) more = ap (λ (t : Text). record { ops = more_ops o t.ops; blocks = t.blocks }) (puts_text line more)

    mutual
      op_text : (o : Op) (n : ℕ) (more : List Item) → text_of (op_items w n o more) ≡ record { ops = ops_front (new_op p bits new ty false n o) (text_of more).ops; blocks = (text_of more).blocks }
      op_text (op k rs os regions ls) n more =
          ap (λ (c : Option (ℕ × List Piece)). text_of (by_cut c)) (no_cuts n (op k rs os regions ls))
          ∙ puts_text (line_of p bits new (source_at n) (shape_of ty (op k rs os regions ls)) (op k rs os (whole_regions (held_regions w (n + 1) regions)) ls)) more
          ∙ ap (λ r. record { ops = ops_front (line_of p bits new (source_at n) (shape_of ty (op k rs os regions ls)) (op k rs os r ls)) (text_of more).ops; blocks = (text_of more).blocks }) (regions_text regions (n + 1))
        where
          by_cut : Option (ℕ × List Piece) → List Item
          by_cut c = op_at w n (op k rs os regions ls) (op k rs os (whole_regions (held_regions w (n + 1) regions)) ls) c (held_regions w (n + 1) regions) more

      ops_text : (os : Ops) (n : ℕ) (more : List Item) (b : Blocks) → text_of more ≡ record { ops = end_of_ops; blocks = b } → text_of (items w false n os more) ≡ record { ops = new_ops p bits new ty false n os; blocks = b }
      ops_text end_of_ops n more b is = is
      ops_text (more_ops o os) n more b is =
          op_text o n (items w false (n + op_size o) os more)
          ∙ ap (λ (t : Text). record { ops = ops_front (new_op p bits new ty false n o) t.ops; blocks = t.blocks }) (ops_text os (n + op_size o) more b is)

      regions_text : (rs : Regions) (n : ℕ) → whole_regions (held_regions w n rs) ≡ new_regions p bits new ty false n rs
      regions_text end_of_regions n = refl
      regions_text (region blocks more) n =
          ap (λ (t : Text). region t.blocks (whole_regions (held_regions w (n + blocks_size blocks) more))) (blocks_text blocks n true)
          ∙ ap (region (new_blocks p bits new ty false n true blocks)) (regions_text more (n + blocks_size blocks))

      blocks_text : (bs : Blocks) (n : ℕ) (is_first : Bool) → text_of (whole_items (held_blocks w n bs)) ≡ record { ops = end_of_ops; blocks = new_blocks p bits new ty false n is_first bs }
      blocks_text end_of_blocks n is_first = refl
      blocks_text (block label args ops more) n true =
          ap (λ (t : Text). record { ops = end_of_ops; blocks = block label args t.ops t.blocks })
          (ops_text ops n (whole_items (held_blocks w (n + ops_size ops) more)) (new_blocks p bits new ty false (n + ops_size ops) false more) (blocks_text more (n + ops_size ops) false))
      blocks_text (block label args ops more) n false =
          ap (λ (t : Text). record { ops = end_of_ops; blocks = block label args t.ops t.blocks })
          (ops_text ops n (whole_items (held_blocks w (n + ops_size ops) more)) (new_blocks p bits new ty false (n + ops_size ops) false more) (blocks_text more (n + ops_size ops) false))

    function_is : (f : Op) (c : Option Choice) → IsLine c → function_by new f c (held_regions w 1 (regions_of f)) ≡ new_function p bits new ty false f
    function_is (op k rs os regions ls) None h = ap (λ r. op k rs os r ls) (regions_text regions 1)
    function_is (op k rs os regions ls) (Some Stays) h = ap (λ r. op k rs os r ls) (regions_text regions 1)
    function_is (op k rs os regions ls) (Some (choices.Line t)) h = ap (λ r. op k rs os r ls) (regions_text regions 1)
    function_is f (Some (Cuts place ps)) h = absurd h
    function_is f (Some (Frames g t)) h = absurd h

pub replacements_are : (p : Pass) (bits : ℕ) (new : Supply) (f : Op) → StraightTable bits p.table → replacements p bits new f ≡ new_function p bits new (types_of f) false f
replacements_are p bits new f straight =
    function_is p bits new (types_of f) straight f _ (go (demanded p.mode p.target (shape_of (types_of f) f)))
  where
    go : (b : Bool) → IsLine (if b then choice_in p bits new (types_of f) 0 f else None)
    go true = choice_line bits p.target p.table (new.row 0) (types_of f) f straight
    go false = tt

-- No copies

-- no operation in a tree is a copy
abbrev mutual
  pub OpBare : Op → Type 0
  OpBare (op k results operands regions successors) = (bytes_eq k.name copy_name ≡ false) × RegionsBare regions

  pub OpsBare : Ops → Type 0
  OpsBare end_of_ops = Unit {0}
  OpsBare (more_ops o os) = OpBare o × OpsBare os

  pub RegionsBare : Regions → Type 0
  RegionsBare end_of_regions = Unit {0}
  RegionsBare (region blocks more) = BlocksBare blocks × RegionsBare more

  pub BlocksBare : Blocks → Type 0
  BlocksBare end_of_blocks = Unit {0}
  BlocksBare (block label args ops more) = OpsBare ops × BlocksBare more

mutual
  op_stays : (o : Op) → OpBare o → op_without is_copy o ≡ o
  op_stays (op k rs os regions ls) bare = ap (λ r. op k rs os r ls) (regions_stay regions bare.1)

  ops_stay : (os : Ops) → OpsBare os → ops_without is_copy os ≡ os
  ops_stay end_of_ops bare = refl
  ops_stay (more_ops (op k rs os regions ls) rest) bare =
      ap (λ b. if b then ops_without is_copy rest else more_ops (op_without is_copy (op k rs os regions ls)) (ops_without is_copy rest)) bare.0.0
      ∙ ap (λ r. more_ops (op k rs os r ls) (ops_without is_copy rest)) (regions_stay regions bare.0.1) ∙ ap (more_ops (op k rs os regions ls)) (ops_stay rest bare.1)

  regions_stay : (rs : Regions) → RegionsBare rs → regions_without is_copy rs ≡ rs
  regions_stay end_of_regions bare = refl
  regions_stay (region blocks more) bare = ap (λ b. region b (regions_without is_copy more)) (blocks_stay blocks bare.0) ∙ ap (region blocks) (regions_stay more bare.1)

  blocks_stay : (bs : Blocks) → BlocksBare bs → blocks_without is_copy bs ≡ bs
  blocks_stay end_of_blocks bare = refl
  blocks_stay (block label args ops more) bare =
      ap (λ o. block label args o (blocks_without is_copy more)) (ops_stay ops bare.0) ∙ ap (block label args ops) (blocks_stay more bare.1)

same_numbers : (ns : List ℕ) → map (λ n. n) ns ≡ ns
same_numbers [] = refl
same_numbers (n ∷ ns) = ap (λ ms. n ∷ ms) (same_numbers ns)

mutual
  op_used_same : (o : Op) → op_uses (λ n. n) o ≡ o
  op_used_same (op k rs os regions ls) = ap (λ ns. op k rs ns (regions_uses (λ n. n) regions) ls) (same_numbers os) ∙ ap (λ r. op k rs os r ls) (regions_used_same regions)

  ops_used_same : (os : Ops) → ops_uses (λ n. n) os ≡ os
  ops_used_same end_of_ops = refl
  ops_used_same (more_ops o os) = ap (λ x. more_ops x (ops_uses (λ n. n) os)) (op_used_same o) ∙ ap (more_ops o) (ops_used_same os)

  regions_used_same : (rs : Regions) → regions_uses (λ n. n) rs ≡ rs
  regions_used_same end_of_regions = refl
  regions_used_same (region blocks more) = ap (λ b. region b (regions_uses (λ n. n) more)) (blocks_used_same blocks) ∙ ap (region blocks) (regions_used_same more)

  blocks_used_same : (bs : Blocks) → blocks_uses (λ n. n) bs ≡ bs
  blocks_used_same end_of_blocks = refl
  blocks_used_same (block label args ops more) = ap (λ o. block label args o (blocks_uses (λ n. n) more)) (ops_used_same ops) ∙ ap (block label args ops) (blocks_used_same more)

mutual
  op_no_copies : (o : Op) (n : ℕ) (more : List (ℕ × Op)) → OpBare o → copies_in (op_listed n o more) ≡ copies_in more
  op_no_copies (op k rs os regions ls) n more bare =
      ap (λ b. if b then pair_in (op k rs os regions ls) ++ copies_in (regions_listed (n + 1) regions more) else copies_in (regions_listed (n + 1) regions more)) bare.0 ∙ regions_no_copies regions (n + 1) more bare.1

  ops_no_copies : (os : Ops) (n : ℕ) (more : List (ℕ × Op)) → OpsBare os → copies_in (ops_listed n os more) ≡ copies_in more
  ops_no_copies end_of_ops n more bare = refl
  ops_no_copies (more_ops o os) n more bare = op_no_copies o n _ bare.0 ∙ ops_no_copies os (n + op_size o) more bare.1

  regions_no_copies : (rs : Regions) (n : ℕ) (more : List (ℕ × Op)) → RegionsBare rs → copies_in (regions_listed n rs more) ≡ copies_in more
  regions_no_copies end_of_regions n more bare = refl
  regions_no_copies (region blocks rest) n more bare = blocks_no_copies blocks n _ bare.0 ∙ regions_no_copies rest (n + blocks_size blocks) more bare.1

  blocks_no_copies : (bs : Blocks) (n : ℕ) (more : List (ℕ × Op)) → BlocksBare bs → copies_in (blocks_listed n bs more) ≡ copies_in more
  blocks_no_copies end_of_blocks n more bare = refl
  blocks_no_copies (block label args ops rest) n more bare = ops_no_copies ops n _ bare.0 ∙ blocks_no_copies rest (n + ops_size ops) more bare.1

pub nothing_left_out : (f : Op) → OpBare f → copies_left_out f ≡ f
nothing_left_out f bare =
    ap (λ cs. op_uses (followed cs (λ v. v)) (op_without is_copy f)) (op_no_copies f 0 [] bare) ∙ ap (op_uses (λ n. n)) (op_stays f bare) ∙ op_used_same f
