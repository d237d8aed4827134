-- Items define what the operations do that they are of, and at most one new number.
use Rattle.std.proofs.Common.{◌≡◌, ℕ, zero, suc, ◌+◌, ◌==◌, ◌≤◌, Bool, true, false, List, [], ◌∷◌, Option, Some, None, refl, arith, true≢false}
use Rattle.std.specs.Prelude.{◌&&◌, if◌then◌else◌}
use Rattle.std.proofs.lemmas.Bool.{eqb-true}
use Rattle.plain_tree.specs.Ops.{Op, op, Ops, end_of_ops, more_ops, Regions, end_of_regions, region, Blocks, end_of_blocks, block}
use Rattle.conversion_model.specs.Targets.{Shape, goes_with_holder, name_of, shape_with}
use Rattle.conversion_model.specs.Rows.{Piece, Product, Opens, Held, Stands}
use Rattle.conversion_model.specs.Items.{From, HeldBlock, Item, Puts, Begins, Ways, blocks_size, cut, held_at, held_blocks, held_in, held_regions, items, op_at, op_items, op_size, ops_size, puts, regions_size, text_of, whole_items, whole_regions}
use Rattle.conversion_model.specs.Reconciled.{results_of}
use Rattle.conversion_model.specs.Conversion.{regions_of}
use Rattle.conversion_model.specs.Counts.{block_heads, blocks_total, held_count, list_total, op_total, ops_total, pieces_total, region_heads, regions_total, values_total}
use Rattle.conversion_model.proofs.OnceLemmas.{Unique, Few, few_none, Range, Behind, Just, join, wider, amount_at, amount_in, held_most, held_sum, sum_at, sum_in}

abbrev pub items_total : (ℕ → ℕ) → (ℕ → ℕ) → List Item → ℕ
items_total value label [] = 0
items_total value label (Puts o ∷ xs) = op_total value label o + items_total value label xs
items_total value label (Begins l args ∷ xs) = label l + (values_total value args + items_total value label xs)

-- a bound: what there was, and at most one new number from in there
pub record Bound (Has In : ℕ → ℕ → Type 0) (base c : ℕ) : Type 0 where
  pub extra : ℕ
  pub few : Few Has In extra
  pub most : c ≤ base + extra

-- items in front of others: in all no more than that
pub record Adds (value label : ℕ → ℕ) (Has In : ℕ → ℕ → Type 0) (base : ℕ) (f : List Item → List Item) : Type 0 where
  pub extra : ℕ
  pub few : Few Has In extra
  pub adds : (more : List Item) → items_total value label (f more) ≤ base + extra + items_total value label more

pub record WaysOnce (value label : ℕ → ℕ) (Has : ℕ → ℕ → Type 0) (w : Ways) : Type 0 where
  pub line : (from : From) (shape : Shape) (o : Op) → Bound Has (Just from.number from.piece) (op_total value label o) (list_total value label (w.line from shape o))
  pub cuts : (n : ℕ) (o : Op) (c : ℕ × List Piece) → w.cuts n o ≡ Some c
      → Bound Has (Just n 0) (values_total value (results_of o) + region_heads value label (regions_of o)) (pieces_total value label c.1)
  pub held : (n : ℕ) (o : Op) (c : ℕ × List Piece) → w.cuts n o ≡ Some c → (r b : ℕ) → held_count r b c.1 ≤ 1

pub puts_total : (value label : ℕ → ℕ) (os : List Op) (more : List Item) → items_total value label (puts os more) ≡ list_total value label os + items_total value label more
puts_total value label [] more = omega arith
puts_total value label (o ∷ os) more = omega (arith, puts_total value label os more)

-- Held blocks, each with what it amounts to

pub data Amounts (value label : ℕ → ℕ) : List HeldBlock → List ℕ → Type 0 where
  amounts_ended : Amounts value label [] []
  more_amounts : {h : HeldBlock} {a : ℕ} {hs : List HeldBlock} {amounts : List ℕ}
      → ((more : List Item) → items_total value label (h.held more) ≤ a + items_total value label more) → Amounts value label hs amounts → Amounts value label (h ∷ hs) (a ∷ amounts)

pub data AmountsIn (value label : ℕ → ℕ) : List (List HeldBlock) → List (List ℕ) → Type 0 where
  regions_ended : AmountsIn value label [] []
  more_regions : {h : List HeldBlock} {a : List ℕ} {hs : List (List HeldBlock)} {amounts : List (List ℕ)}
      → Amounts value label h a → AmountsIn value label hs amounts → AmountsIn value label (h ∷ hs) (a ∷ amounts)

not_first_by : (b : ℕ) (c : Bool) → (suc b == 0) ≡ c → c ≡ false
not_first_by b true is = absurd (omega (arith, eqb-true (suc b) 0 is))
not_first_by b false is = refl

not_first : (b : ℕ) → (suc b == 0) ≡ false
not_first b = not_first_by b (suc b == 0) refl

later_adds : (value label : ℕ → ℕ) (c : Bool) (x y : List Item) (n : ℕ) → c ≡ false → items_total value label y ≤ n → items_total value label (if c then x else y) ≤ n
later_adds value label true x y n is less = absurd (true≢false is)
later_adds value label false x y n is less = less

held_in_adds : {value label : ℕ → ℕ} {hs : List HeldBlock} {amounts : List ℕ} (b : ℕ) → Amounts value label hs amounts → (more : List Item)
    → items_total value label (held_in b hs more) ≤ amount_in b amounts + items_total value label more
held_in_adds b amounts_ended more = omega arith
held_in_adds zero (more_amounts here rest) more = here more
held_in_adds {value = value} {label = label} (suc b) (more_amounts {h = h} {hs = hs} {amounts = amounts} here rest) more =
    later_adds value label (suc b == 0) (h.held more) (held_in b hs more) (amount_in b amounts + items_total value label more) (not_first b) (held_in_adds b rest more)

held_at_adds : {value label : ℕ → ℕ} {hs : List (List HeldBlock)} {amounts : List (List ℕ)} (r b : ℕ) → AmountsIn value label hs amounts → (more : List Item)
    → items_total value label (held_at r b hs more) ≤ amount_at r b amounts + items_total value label more
held_at_adds r b regions_ended more = omega arith
held_at_adds zero b (more_regions here rest) more = held_in_adds b here more
held_at_adds {value = value} {label = label} (suc r) b (more_regions {h = h} {hs = hs} {amounts = amounts} here rest) more =
    later_adds value label (suc r == 0) (held_in b h more) (held_at r b hs more) (amount_at r b amounts + items_total value label more) (not_first r) (held_at_adds r b rest more)

-- Pieces

pub record CutAdds (value label : ℕ → ℕ) (Has In : ℕ → ℕ → Type 0) (amounts : List (List ℕ)) (ps : List Piece) (f : List Item → List Item) : Type 0 where
  pub extra : ℕ
  pub few : Few Has In extra
  pub adds : (more : List Item) → items_total value label (f more) ≤ pieces_total value label ps + extra + held_sum amounts ps + items_total value label more

cut_adds : {value label : ℕ → ℕ} {Has : ℕ → ℕ → Type 0} {hs : List (List HeldBlock)} {amounts : List (List ℕ)} (w : Ways) → Unique Has → WaysOnce value label Has w → AmountsIn value label hs amounts
    → (n place k : ℕ) (ps : List Piece) → CutAdds value label Has (Behind n k) amounts ps (cut w n place hs k ps)
cut_adds w one once held n place k [] = record { extra = 0; few = few_none; adds = λ more. omega arith }
cut_adds {value = value} {label = label} {Has = Has} {hs = hs} {amounts = amounts} w one once held n place k (Product o types ∷ ps) =
    let from : From = record { number = n; piece = k; path = place ∷ [] } in
    let here : Bound Has (Just n k) (op_total value label o) (list_total value label (w.line from (shape_with types o) o)) = once.line from (shape_with types o) o in
    let rest : CutAdds value label Has (Behind n (k + 1)) amounts ps (cut w n place hs (k + 1) ps) = cut_adds w one once held n place (k + 1) ps in
    record {
      extra = here.extra + rest.extra;
      few = join here.extra rest.extra one (λ i j p q. omega (arith, p.1, q.1)) (λ i j p. (p.0, omega (arith, p.1))) (λ i j p. (p.0, omega (arith, p.1))) here.few rest.few;
      adds = λ more. omega (arith, here.most, rest.adds more, puts_total value label (w.line from (shape_with types o) o) (cut w n place hs (k + 1) ps more));
    }
cut_adds {value = value} {label = label} {Has = Has} {hs = hs} {amounts = amounts} w one once held n place k (Opens l args ∷ ps) =
    let rest : CutAdds value label Has (Behind n (k + 1)) amounts ps (cut w n place hs (k + 1) ps) = cut_adds w one once held n place (k + 1) ps in
    record { extra = rest.extra; few = wider (λ i j p. (p.0, omega (arith, p.1))) rest.few; adds = λ more. omega (arith, rest.adds more) }
cut_adds {value = value} {label = label} {Has = Has} {hs = hs} {amounts = amounts} w one once held n place k (Held r b ∷ ps) =
    let rest : CutAdds value label Has (Behind n (k + 1)) amounts ps (cut w n place hs (k + 1) ps) = cut_adds w one once held n place (k + 1) ps in
    record {
      extra = rest.extra;
      few = wider (λ i j p. (p.0, omega (arith, p.1))) rest.few;
      adds = λ more. omega (arith, rest.adds more, held_at_adds r b held (cut w n place hs (k + 1) ps more));
    }
cut_adds {value = value} {label = label} {Has = Has} {hs = hs} {amounts = amounts} w one once held n place k (Stands result there ∷ ps) =
    let rest : CutAdds value label Has (Behind n (k + 1)) amounts ps (cut w n place hs (k + 1) ps) = cut_adds w one once held n place (k + 1) ps in
    record { extra = rest.extra; few = wider (λ i j p. (p.0, omega (arith, p.1))) rest.few; adds = λ more. omega (arith, rest.adds more) }

-- Text

pub text_total : (value label : ℕ → ℕ) (xs : List Item) → ops_total value label (text_of xs).ops + blocks_total value label (text_of xs).blocks ≡ items_total value label xs
text_total value label [] = omega arith
text_total value label (Puts o ∷ xs) = omega (arith, text_total value label xs)
text_total value label (Begins l args ∷ xs) = omega (arith, text_total value label xs)

-- Trees

pub record HeldBound (value label : ℕ → ℕ) (Has In : ℕ → ℕ → Type 0) (blocks : Blocks) (hs : List HeldBlock) : Type 0 where
  pub amounts : List ℕ
  pub each : Amounts value label hs amounts
  pub extra : ℕ
  pub few : Few Has In extra
  pub most : block_heads value label blocks + sum_in amounts ≤ blocks_total value label blocks + extra

pub record HeldBounds (value label : ℕ → ℕ) (Has In : ℕ → ℕ → Type 0) (regions : Regions) (hs : List (List HeldBlock)) : Type 0 where
  pub amounts : List (List ℕ)
  pub each : AmountsIn value label hs amounts
  pub extra : ℕ
  pub few : Few Has In extra
  pub most : region_heads value label regions + sum_at amounts ≤ regions_total value label regions + extra

at_adds : {value label : ℕ → ℕ} {Has : ℕ → ℕ → Type 0} {hs : List (List HeldBlock)} (w : Ways) → Unique Has → WaysOnce value label Has w
    → (n size : ℕ) (source kept : Op) (c : Option (ℕ × List Piece)) → w.cuts n source ≡ c
    → HeldBounds value label Has (Range (n + 1) (n + 1 + size)) (regions_of source) hs
    → Bound Has (Range (n + 1) (n + 1 + size)) (op_total value label source) (op_total value label kept)
    → values_total value (results_of source) + regions_total value label (regions_of source) ≤ op_total value label source
    → Adds value label Has (Range n (n + (size + 1))) (op_total value label source) (op_at w n source kept c hs)
at_adds {value = value} {label = label} {Has = Has} w one once n size source kept None is held whole same =
    let from : From = record { number = n; piece = 0; path = [] } in
    let here : Bound Has (Just n 0) (op_total value label kept) (list_total value label (w.line from (w.shape source) kept)) = once.line from (w.shape source) kept in
    record {
      extra = here.extra + whole.extra;
      few = join here.extra whole.extra one (λ i j p q. omega (arith, p.0, q.0)) (λ i j p. (omega (arith, p.0), omega (arith, p.0))) (λ i j p. (omega (arith, p.0), omega (arith, p.1))) here.few whole.few;
      adds = λ more. omega (arith, here.most, whole.most, puts_total value label (w.line from (w.shape source) kept) more);
    }
at_adds {value = value} {label = label} {Has = Has} {hs = hs} w one once n size source kept (Some c) is held whole same =
    let here : Bound Has (Just n 0) (values_total value (results_of source) + region_heads value label (regions_of source)) (pieces_total value label c.1) = once.cuts n source c is in
    let pieces : CutAdds value label Has (Behind n 1) held.amounts c.1 (cut w n c.0 hs 1 c.1) = cut_adds w one once held.each n c.0 1 c.1 in
    let own : Few Has (Range n (n + 1)) (here.extra + pieces.extra) =
    join here.extra pieces.extra one (λ i j p q. omega (arith, p.1, q.1)) (λ i j p. (omega (arith, p.0), omega (arith, p.0))) (λ i j p. (omega (arith, p.0), omega (arith, p.0))) here.few pieces.few in
    record {
      extra = here.extra + pieces.extra + held.extra;
      few = join (here.extra + pieces.extra) held.extra one (λ i j p q. omega (arith, p.1, q.0)) (λ i j p. (p.0, omega (arith, p.1))) (λ i j p. (omega (arith, p.0), omega (arith, p.1))) own held.few;
      adds = λ more. omega (arith, here.most, pieces.adds more, held.most, held_most held.amounts c.1 (once.held n source c is), same);
    }

stops_adds : {value label : ℕ → ℕ} {Has In : ℕ → ℕ → Type 0} {base : ℕ} {f : List Item → List Item} (b : Bool) → Adds value label Has In base f → Adds value label Has In base (λ more. if b then more else f more)
stops_adds true a = record { extra = 0; few = few_none; adds = λ more. omega arith }
stops_adds false a = a

mutual
  pub items_adds : {value label : ℕ → ℕ} {Has : ℕ → ℕ → Type 0} (w : Ways) → Unique Has → WaysOnce value label Has w → (held : Bool) (n : ℕ) (os : Ops)
      → Adds value label Has (Range n (n + ops_size os)) (ops_total value label os) (items w held n os)
  items_adds w one once held n end_of_ops = record { extra = 0; few = few_none; adds = λ more. omega arith }
  items_adds {value = value} {label = label} {Has = Has} w one once held n (more_ops o os) =
      let here : Adds value label Has (Range n (n + op_size o)) (op_total value label o) (op_items w n o) = op_items_adds w one once n o in
      let rest : Adds value label Has (Range (n + op_size o) (n + op_size o + ops_size os)) (ops_total value label os) (items w held (n + op_size o) os) = items_adds w one once held (n + op_size o) os in
      stops_adds (held && goes_with_holder (name_of o)) (record {
        extra = here.extra + rest.extra;
        few = join here.extra rest.extra one (λ i j p q. omega (arith, p.1, q.0)) (λ i j p. (p.0, omega (arith, p.1))) (λ i j p. (omega (arith, p.0), omega (arith, p.1))) here.few rest.few;
        adds = λ more. omega (arith, here.adds (items w held (n + op_size o) os more), rest.adds more);
      })

  pub op_items_adds : {value label : ℕ → ℕ} {Has : ℕ → ℕ → Type 0} (w : Ways) → Unique Has → WaysOnce value label Has w → (n : ℕ) (o : Op)
      → Adds value label Has (Range n (n + op_size o)) (op_total value label o) (op_items w n o)
  op_items_adds {value = value} {label = label} {Has = Has} w one once n (op k results operands regions successors) =
      let whole : Bound Has (Range (n + 1) (n + 1 + regions_size regions)) (regions_total value label regions) (regions_total value label (whole_regions (held_regions w (n + 1) regions))) =
      whole_regions_bound w one once (n + 1) regions in
      at_adds w one once n (regions_size regions) (op k results operands regions successors) (op k results operands (whole_regions (held_regions w (n + 1) regions)) successors)
      (w.cuts n (op k results operands regions successors)) refl
      (held_regions_bound w one once (n + 1) regions)
      (record { extra = whole.extra; few = whole.few; most = omega (arith, whole.most) })
      (omega arith)

  pub whole_regions_bound : {value label : ℕ → ℕ} {Has : ℕ → ℕ → Type 0} (w : Ways) → Unique Has → WaysOnce value label Has w → (n : ℕ) (rs : Regions)
      → Bound Has (Range n (n + regions_size rs)) (regions_total value label rs) (regions_total value label (whole_regions (held_regions w n rs)))
  whole_regions_bound w one once n end_of_regions = record { extra = 0; few = few_none; most = omega arith }
  whole_regions_bound {value = value} {label = label} {Has = Has} w one once n (region blocks more) =
      let here : Bound Has (Range n (n + blocks_size blocks)) (blocks_total value label blocks) (items_total value label (whole_items (held_blocks w n blocks))) = whole_blocks_bound w one once n blocks in
      let rest : Bound Has (Range (n + blocks_size blocks) (n + blocks_size blocks + regions_size more)) (regions_total value label more) (regions_total value label (whole_regions (held_regions w (n + blocks_size blocks) more))) =
      whole_regions_bound w one once (n + blocks_size blocks) more in
      record {
        extra = here.extra + rest.extra;
        few = join here.extra rest.extra one (λ i j p q. omega (arith, p.1, q.0)) (λ i j p. (p.0, omega (arith, p.1))) (λ i j p. (omega (arith, p.0), omega (arith, p.1))) here.few rest.few;
        most = omega (arith, here.most, rest.most, text_total value label (whole_items (held_blocks w n blocks)));
      }

  pub whole_blocks_bound : {value label : ℕ → ℕ} {Has : ℕ → ℕ → Type 0} (w : Ways) → Unique Has → WaysOnce value label Has w → (n : ℕ) (bs : Blocks)
      → Bound Has (Range n (n + blocks_size bs)) (blocks_total value label bs) (items_total value label (whole_items (held_blocks w n bs)))
  whole_blocks_bound w one once n end_of_blocks = record { extra = 0; few = few_none; most = omega arith }
  whole_blocks_bound {value = value} {label = label} {Has = Has} w one once n (block l args ops more) =
      let here : Adds value label Has (Range n (n + ops_size ops)) (ops_total value label ops) (items w false n ops) = items_adds w one once false n ops in
      let rest : Bound Has (Range (n + ops_size ops) (n + ops_size ops + blocks_size more)) (blocks_total value label more) (items_total value label (whole_items (held_blocks w (n + ops_size ops) more))) =
      whole_blocks_bound w one once (n + ops_size ops) more in
      record {
        extra = here.extra + rest.extra;
        few = join here.extra rest.extra one (λ i j p q. omega (arith, p.1, q.0)) (λ i j p. (p.0, omega (arith, p.1))) (λ i j p. (omega (arith, p.0), omega (arith, p.1))) here.few rest.few;
        most = omega (arith, here.adds (whole_items (held_blocks w (n + ops_size ops) more)), rest.most);
      }

  pub held_regions_bound : {value label : ℕ → ℕ} {Has : ℕ → ℕ → Type 0} (w : Ways) → Unique Has → WaysOnce value label Has w → (n : ℕ) (rs : Regions)
      → HeldBounds value label Has (Range n (n + regions_size rs)) rs (held_regions w n rs)
  held_regions_bound w one once n end_of_regions = record { amounts = []; each = regions_ended; extra = 0; few = few_none; most = omega arith }
  held_regions_bound {value = value} {label = label} {Has = Has} w one once n (region blocks more) =
      let here : HeldBound value label Has (Range n (n + blocks_size blocks)) blocks (held_blocks w n blocks) = held_blocks_bound w one once n blocks in
      let rest : HeldBounds value label Has (Range (n + blocks_size blocks) (n + blocks_size blocks + regions_size more)) more (held_regions w (n + blocks_size blocks) more) =
      held_regions_bound w one once (n + blocks_size blocks) more in
      record {
        amounts = here.amounts ∷ rest.amounts;
        each = more_regions here.each rest.each;
        extra = here.extra + rest.extra;
        few = join here.extra rest.extra one (λ i j p q. omega (arith, p.1, q.0)) (λ i j p. (p.0, omega (arith, p.1))) (λ i j p. (omega (arith, p.0), omega (arith, p.1))) here.few rest.few;
        most = omega (arith, here.most, rest.most);
      }

  pub held_blocks_bound : {value label : ℕ → ℕ} {Has : ℕ → ℕ → Type 0} (w : Ways) → Unique Has → WaysOnce value label Has w → (n : ℕ) (bs : Blocks)
      → HeldBound value label Has (Range n (n + blocks_size bs)) bs (held_blocks w n bs)
  held_blocks_bound w one once n end_of_blocks = record { amounts = []; each = amounts_ended; extra = 0; few = few_none; most = omega arith }
  held_blocks_bound {value = value} {label = label} {Has = Has} w one once n (block l args ops more) =
      let here : Adds value label Has (Range n (n + ops_size ops)) (ops_total value label ops) (items w true n ops) = items_adds w one once true n ops in
      let rest : HeldBound value label Has (Range (n + ops_size ops) (n + ops_size ops + blocks_size more)) more (held_blocks w (n + ops_size ops) more) =
      held_blocks_bound w one once (n + ops_size ops) more in
      record {
        amounts = (ops_total value label ops + here.extra) ∷ rest.amounts;
        each = more_amounts (λ xs. here.adds xs) rest.each;
        extra = here.extra + rest.extra;
        few = join here.extra rest.extra one (λ i j p q. omega (arith, p.1, q.0)) (λ i j p. (p.0, omega (arith, p.1))) (λ i j p. (omega (arith, p.0), omega (arith, p.1))) here.few rest.few;
        most = omega (arith, rest.most);
      }
