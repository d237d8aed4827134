-- A conversion defines each number at most once.
use Rattle.std.proofs.Common.{◌≡◌, ℕ, zero, suc, ◌+◌, ◌==◌, ◌≤◌, Bool, true, false, List, [], ◌∷◌, Option, Some, None, refl, sym, ap, ◌∙◌, subst, arith, length, true≢false}
use Rattle.std.specs.Prelude.{◌&&◌, not, Result, Ok, Err, flat_map, if◌then◌else◌}
use Rattle.plain_tree.specs.Types.{PlainType}
use Rattle.plain_tree.specs.Ops.{Op, op, Regions, end_of_regions, region, end_of_blocks, block, Values}
use Rattle.conversion_model.specs.declared.templates.Source.{Source}
use Rattle.conversion_model.specs.Templates.{Step, Template, copies, copy, named, number_of, numbers, steps_written, values_made, written}
use Rattle.conversion_model.specs.Targets.{Mode, Partial, Full, demanded, is_legal, shape_of}
use Rattle.conversion_model.specs.Rows.{Frame, Part}
use Rattle.conversion_model.specs.Chosen.{chosen, made_by}
use Rattle.conversion_model.specs.Choice.{Choice, Stays, Line, Cuts, Frames}
use Rattle.conversion_model.specs.Items.{Begins, Ways, blocks_size, held_blocks, held_regions, items, ops_size, puts, regions_size, whole_items, whole_regions}
use Rattle.conversion_model.specs.Uses.{copies_left_out, operations, types_of}
use Rattle.conversion_model.specs.Conversion.{Pass, Supply, Unlegalised, choice_in, converted, finished, first_unlegalised, function_by, is_source, line_by, or_fails, params_from, params_of, regions_of, replacements, ways, with_blocks}
use Rattle.conversion_model.specs.Fresh.{of_block, Fresh}
use Rattle.conversion_model.specs.Counts.{blocks_total, ConversionOnce, DefinesOnce, LabelsOnce, hits, label_count, list_total, named_count, none, op_count, op_total, ops_total, PiecesOnce, regions_total, TableOnce, values_total}
use Rattle.conversion_model.proofs.ReconcileLaws.{same_number}
use Rattle.conversion_model.proofs.WrittenLaws.{written_once}
use Rattle.conversion_model.proofs.OnceLemmas.{Few, Found, Just, NamedAt, Range, Unique, few_none, join, named_at, wider}
use Rattle.conversion_model.proofs.OnceItems.{Adds, Bound, WaysOnce, items_adds, items_total, puts_total, text_total, whole_blocks_bound, whole_regions_bound}
use Rattle.conversion_model.proofs.OnceStages.{copies_total, reconciled_total}
use Rattle.conversion_model.proofs.OnceChoice.{way_once}
use Rattle.conversion_model.proofs.OnceFresh.{HasValue, HasLabel, block_most, both, function_few, label_few, label_old, label_old_or_new, label_unique, line_few, old_or_new, places_same, row_few, value_old, value_unique}
use Rattle.conversion_model.proofs.OnceBlocks.{More, NamedBlock, op_more}

-- What is written opens no block

no_values : (vs : Values) → values_total none vs ≡ 0
no_values [] = refl
no_values (v ∷ vs) = omega (arith, no_values vs)

no_steps : (l : ℕ) (name : ℕ → ℕ) (os ls : List ℕ) (n : ℕ) (steps : List Step) (more : List Op)
    → list_total none (hits l) (steps_written name os ls n steps more) ≡ list_total none (hits l) more
no_steps l name os ls n [] more = refl
no_steps l name os ls n (s ∷ steps) more = omega (arith, no_values (values_made name n s.makes), no_steps l name os ls (n + length s.makes) steps more)

no_copy_by : (l : ℕ) (r : ℕ × PlainType) (value : ℕ) (os : List Op) (b : Bool) → list_total none (hits l) (if b then os else copy r value ∷ os) ≡ list_total none (hits l) os
no_copy_by l r value os true = refl
no_copy_by l r value os false = omega arith

no_copies : (l : ℕ) (name : ℕ → ℕ) (operands : List ℕ) (results : Values) (sources : List Source) → list_total none (hits l) (copies name operands results sources []) ≡ 0
no_copies l name operands [] sources = refl
no_copies l name operands (r ∷ rs) [] = refl
no_copies l name operands (r ∷ rs) (s ∷ sources) =
    no_copy_by l r (number_of name operands s) (copies name operands rs sources []) (number_of name operands s == r.0) ∙ no_copies l name operands rs sources

written_none : (l : ℕ) (new : ℕ → ℕ) (results : Values) (operands labels : List ℕ) (t : Template) → list_total none (hits l) (written new results operands labels t []) ≡ 0
written_none l new results operands labels t =
    let name : ℕ → ℕ = named new (numbers results) t.results in
    no_steps l name operands labels 0 t.steps (copies name operands results t.results []) ∙ no_copies l name operands results t.results

-- What stands for an operation

itself : {Has In : ℕ → ℕ → Type 0} (value label : ℕ → ℕ) (o : Op) → Bound Has In (op_total value label o) (list_total value label (o ∷ []))
itself value label o = record { extra = 0; few = few_none; most = omega arith }

either_list : {Has In : ℕ → ℕ → Type 0} {base : ℕ} (value label : ℕ → ℕ) (xs ys : List Op) (b : Bool) → Bound Has In base (list_total value label xs) → Bound Has In base (list_total value label ys)
    → Bound Has In base (list_total value label (if b then xs else ys))
either_list value label xs ys true p q = p
either_list value label xs ys false p q = q

line_values : (new : Supply) (f : Op) → Fresh new f → (v n piece : ℕ) (o : Op) (t : Option Template)
    → Bound (HasValue new v) (Just n piece) (op_total (hits v) none o) (list_total (hits v) none (line_by (new.value n piece) o t))
line_values new f fresh v n piece o None = itself (hits v) none o
line_values new f fresh v n piece (op k results operands regions successors) (Some t) = record {
  extra = named_count v (new.value n piece) 0 (made_by t.steps);
  few = line_few new f fresh v n piece (made_by t.steps);
  most = omega (arith, written_once v (new.value n piece) results operands successors t);
}

line_labels : (new : Supply) (l n piece : ℕ) (o : Op) (t : Option Template)
    → Bound (HasLabel new l) (Just n piece) (op_total none (hits l) o) (list_total none (hits l) (line_by (new.value n piece) o t))
line_labels new l n piece o None = itself none (hits l) o
line_labels new l n piece (op k results operands regions successors) (Some t) = record {
  extra = 0;
  few = few_none;
  most = omega (arith, written_none l (new.value n piece) results operands successors t);
}

values_ways : (p : Pass) (bits : ℕ) (new : Supply) (f : Op) (type_of : ℕ → PlainType) → TableOnce bits p.table → Fresh new f → (v : ℕ) → WaysOnce (hits v) none (HasValue new v) (ways p bits new type_of)
values_ways p bits new f type_of all fresh v = record {
  line = λ from shape o.
      either_list (hits v) none (o ∷ []) (if is_legal p.target shape then o ∷ [] else line_by (new.value from.number from.piece) o (chosen bits p.target p.table from.path shape))
      (is_source from.path && not (demanded p.mode p.target shape)) (itself (hits v) none o)
      (either_list (hits v) none (o ∷ []) (line_by (new.value from.number from.piece) o (chosen bits p.target p.table from.path shape)) (is_legal p.target shape) (itself (hits v) none o)
      (line_values new f fresh v from.number from.piece o (chosen bits p.target p.table from.path shape)));
  cuts = λ n o c is.
      let once : PiecesOnce (new.row n) o c.1 = way_once bits p.target p.table (new.row n) type_of o (demanded p.mode p.target (shape_of type_of o)) c all is in
      record { extra = named_count v (new.row n).value 0 once.room; few = row_few new f fresh v n once.room; most = omega (arith, once.values v) };
  held = λ n o c is. (way_once bits p.target p.table (new.row n) type_of o (demanded p.mode p.target (shape_of type_of o)) c all is).held;
}

labels_ways : (p : Pass) (bits : ℕ) (new : Supply) (f : Op) (type_of : ℕ → PlainType) → TableOnce bits p.table → Fresh new f → (l : ℕ) → WaysOnce none (hits l) (HasLabel new l) (ways p bits new type_of)
labels_ways p bits new f type_of all fresh l = record {
  line = λ from shape o.
      either_list none (hits l) (o ∷ []) (if is_legal p.target shape then o ∷ [] else line_by (new.value from.number from.piece) o (chosen bits p.target p.table from.path shape))
      (is_source from.path && not (demanded p.mode p.target shape)) (itself none (hits l) o)
      (either_list none (hits l) (o ∷ []) (line_by (new.value from.number from.piece) o (chosen bits p.target p.table from.path shape)) (is_legal p.target shape) (itself none (hits l) o)
      (line_labels new l from.number from.piece o (chosen bits p.target p.table from.path shape)));
  cuts = λ n o c is.
      let once : PiecesOnce (new.row n) o c.1 = way_once bits p.target p.table (new.row n) type_of o (demanded p.mode p.target (shape_of type_of o)) c all is in
      record { extra = named_count l (new.row n).label 0 once.room; few = label_few new f fresh l n once.room; most = omega (arith, once.labels l) };
  held = λ n o c is. (way_once bits p.target p.table (new.row n) type_of o (demanded p.mode p.target (shape_of type_of o)) c all is).held;
}

-- The function itself

record FrameOnce (value label : ℕ → ℕ) (Has : ℕ → ℕ → Type 0) (new : Supply) : Type 0 where
  start : (args : Values) (f : Frame) (entry : Template) → Bound Has (Just 0 0) (values_total value args) (list_total value label (written (new.value 0 0) args (numbers (params_of new f)) [] entry []))
  params : (f : Frame) → Bound Has (Just 0 1) 0 (values_total value (params_of new f))

params_count : (v : ℕ) (new : ℕ → ℕ) (k : ℕ) (ts : List PlainType) → values_total (hits v) (params_from new k ts) ≡ named_count v new k (length ts)
params_count v new k [] = refl
params_count v new k (t ∷ ts) = ap (λ n. hits v (new k) + n) (params_count v new (k + 1) ts)

values_frame : (new : Supply) (f : Op) → Fresh new f → (v : ℕ) → FrameOnce (hits v) none (HasValue new v) new
values_frame new f fresh v = record {
  start = λ args fr entry. record {
    extra = named_count v (new.value 0 0) 0 (made_by entry.steps);
    few = line_few new f fresh v 0 0 (made_by entry.steps);
    most = written_once v (new.value 0 0) args (numbers (params_of new fr)) [] entry;
  };
  params = λ fr.
      let types : List PlainType = flat_map (λ (part : Part). part.takes) fr.entry in
      record { extra = named_count v new.parameter 0 (length types); few = function_few new f fresh v (length types); most = omega (arith, params_count v new.parameter 0 types) };
}

labels_frame : (new : Supply) (l : ℕ) → FrameOnce none (hits l) (HasLabel new l) new
labels_frame new l = record {
  start = λ args fr entry. record { extra = 0; few = few_none; most = omega (arith, written_none l (new.value 0 0) args (numbers (params_of new fr)) [] entry) };
  params = λ fr. record { extra = 0; few = few_none; most = omega (arith, no_values (params_of new fr)) };
}

-- all but the arguments of blocks
abbrev Used : ℕ → ℕ → Type 0
Used i k = i ≡ 0 → k ≤ 1

abbrev Root : ℕ → ℕ → Type 0
Root i k = (i ≡ 0) × (k ≤ 1)

as_it_is : {Has : ℕ → ℕ → Type 0} (value label : ℕ → ℕ) (w : Ways) → Unique Has → WaysOnce value label Has w → (results : Values) (regions : Regions)
    → Bound Has Used (values_total value results + regions_total value label regions) (values_total value results + regions_total value label (whole_regions (held_regions w 1 regions)))
as_it_is {Has = Has} value label w one once results regions =
    let whole : Bound Has (Range 1 (1 + regions_size regions)) (regions_total value label regions) (regions_total value label (whole_regions (held_regions w 1 regions))) = whole_regions_bound w one once 1 regions in
    record { extra = whole.extra; few = wider (λ i j p e. absurd (omega (arith, p.0, e))) whole.few; most = omega (arith, whole.most) }

function_bound : {Has : ℕ → ℕ → Type 0} (value label : ℕ → ℕ) (w : Ways) (new : Supply) → Unique Has → WaysOnce value label Has w → FrameOnce value label Has new → (f : Op) (x : Option Choice)
    → Bound Has Used (op_total value label f) (op_total value label (function_by new f x (held_regions w 1 (regions_of f))))
function_bound value label w new one once frame (op k results operands regions successors) None = as_it_is value label w one once results regions
function_bound value label w new one once frame (op k results operands regions successors) (Some Stays) = as_it_is value label w one once results regions
function_bound value label w new one once frame (op k results operands regions successors) (Some (Line t)) = as_it_is value label w one once results regions
function_bound value label w new one once frame (op k results operands regions successors) (Some (Cuts place ps)) = as_it_is value label w one once results regions
function_bound value label w new one once frame (op k results operands end_of_regions successors) (Some (Frames fr entry)) = record { extra = 0; few = few_none; most = omega arith }
function_bound {Has = Has} value label w new one once frame (op k results operands (region end_of_blocks more) successors) (Some (Frames fr entry)) =
    let whole : Bound Has (Range (1 + blocks_size end_of_blocks) (1 + blocks_size end_of_blocks + regions_size more)) (regions_total value label more) (regions_total value label (whole_regions (held_regions w (1 + blocks_size end_of_blocks) more))) =
    whole_regions_bound w one once (1 + blocks_size end_of_blocks) more in
    record { extra = whole.extra; few = wider (λ i j p e. absurd (omega (arith, p.0, e))) whole.few; most = omega (arith, whole.most) }
function_bound {Has = Has} value label w new one once frame (op k results operands (region (block l args ops bs) more) successors) (Some (Frames fr entry)) =
    let start : Bound Has (Just 0 0) (values_total value args) (list_total value label (written (new.value 0 0) args (numbers (params_of new fr)) [] entry [])) = frame.start args fr entry in
    let params : Bound Has (Just 0 1) 0 (values_total value (params_of new fr)) = frame.params fr in
    let first : Adds value label Has (Range 1 (1 + ops_size ops)) (ops_total value label ops) (items w false 1 ops) = items_adds w one once false 1 ops in
    let others : Bound Has (Range (1 + ops_size ops) (1 + ops_size ops + blocks_size bs)) (blocks_total value label bs) (items_total value label (whole_items (held_blocks w (1 + ops_size ops) bs))) =
    whole_blocks_bound w one once (1 + ops_size ops) bs in
    let after : ℕ = 1 + (ops_size ops + blocks_size bs) in
    let rest : Bound Has (Range after (after + regions_size more)) (regions_total value label more) (regions_total value label (whole_regions (held_regions w after more))) = whole_regions_bound w one once after more in
    let root : Few Has Root (start.extra + params.extra) =
    join start.extra params.extra one (λ i j p q. omega (arith, p.1, q.1)) (λ i j p. (p.0, omega (arith, p.1))) (λ i j p. (p.0, omega (arith, p.1))) start.few params.few in
    let blocks : Few Has (Range 1 after) (first.extra + others.extra) =
    join first.extra others.extra one (λ i j p q. omega (arith, p.1, q.0)) (λ i j p. (p.0, omega (arith, p.1))) (λ i j p. (omega (arith, p.0), omega (arith, p.1))) first.few others.few in
    let all : Few Has (Range 1 (after + regions_size more)) (first.extra + others.extra + rest.extra) =
    join (first.extra + others.extra) rest.extra one (λ i j p q. omega (arith, p.1, q.0)) (λ i j p. (p.0, omega (arith, p.1))) (λ i j p. (omega (arith, p.0), p.1)) blocks rest.few in
    record {
      extra = (start.extra + params.extra) + (first.extra + others.extra + rest.extra);
      few = join (start.extra + params.extra) (first.extra + others.extra + rest.extra) one (λ i j p q. omega (arith, p.0, q.0)) (λ i j p e. p.1) (λ i j p e. absurd (omega (arith, p.0, e))) root all;
      most = omega (
        arith,
        start.most,
        params.most,
        first.adds (whole_items (held_blocks w (1 + ops_size ops) bs)),
        others.most,
        rest.most,
        puts_total value label (written (new.value 0 0) args (numbers (params_of new fr)) [] entry []) (items w false 1 ops (whole_items (held_blocks w (1 + ops_size ops) bs))),
        text_total value label (Begins l (params_of new fr) ∷ puts (written (new.value 0 0) args (numbers (params_of new fr)) [] entry []) (items w false 1 ops (whole_items (held_blocks w (1 + ops_size ops) bs)))),
      );
    }

values_bound : (p : Pass) (bits : ℕ) (new : Supply) (f : Op) → TableOnce bits p.table → Fresh new f → (v : ℕ) → Bound (HasValue new v) Used (op_count v f) (op_count v (replacements p bits new f))
values_bound p bits new f all fresh v =
    function_bound (hits v) none (ways p bits new (types_of f)) new (value_unique new f fresh v) (values_ways p bits new f (types_of f) all fresh v) (values_frame new f fresh v) f
    (if demanded p.mode p.target (shape_of (types_of f) f) then choice_in p bits new (types_of f) 0 f else None)

labels_bound : (p : Pass) (bits : ℕ) (new : Supply) (f : Op) → TableOnce bits p.table → Fresh new f → (l : ℕ) → Bound (HasLabel new l) Used (label_count l f) (label_count l (replacements p bits new f))
labels_bound p bits new f all fresh l =
    function_bound none (hits l) (ways p bits new (types_of f)) new (label_unique new f fresh l) (labels_ways p bits new f (types_of f) all fresh l) (labels_frame new l) f
    (if demanded p.mode p.target (shape_of (types_of f) f) then choice_in p bits new (types_of f) 0 f else None)

-- an old one or a new one
old_or : (base extra : ℕ) → (1 ≤ base → 1 ≤ extra → ⊥) → base ≤ 1 → extra ≤ 1 → base + extra ≤ 1
old_or zero extra apart l m = omega (arith, m)
old_or (suc base) zero apart l m = omega (arith, l)
old_or (suc base) (suc extra) apart l m = absurd (apart (omega arith) (omega arith))

replaced_values : (p : Pass) (bits : ℕ) (new : Supply) (f : Op) → TableOnce bits p.table → Fresh new f → DefinesOnce f → DefinesOnce (replacements p bits new f)
replaced_values p bits new f all fresh once v =
    let bound : Bound (HasValue new v) Used (op_count v f) (op_count v (replacements p bits new f)) = values_bound p bits new f all fresh v in
    omega (
      arith,
      bound.most,
      old_or (op_count v f) bound.extra
          (λ old some. let found : Found (HasValue new v) Used = bound.few.from some in old_or_new new v found.number found.piece (value_old new f fresh v old) found.has)
          (once v) bound.few.most,
    )

replaced_labels : (p : Pass) (bits : ℕ) (new : Supply) (f : Op) → TableOnce bits p.table → Fresh new f → LabelsOnce f → LabelsOnce (replacements p bits new f)
replaced_labels p bits new f all fresh once l =
    let bound : Bound (HasLabel new l) Used (label_count l f) (label_count l (replacements p bits new f)) = labels_bound p bits new f all fresh l in
    omega (
      arith,
      bound.most,
      old_or (label_count l f) bound.extra
          (λ old some. let found : Found (HasLabel new l) Used = bound.few.from some in label_old_or_new new l found.number found.piece (label_old new f fresh l old) found.has)
          (once l) bound.few.most,
    )

-- Block arguments

at_most_hit : (c x y : ℕ) → c ≤ 1 → (1 ≤ c → x ≡ y) → c ≤ hits y x
at_most_hit zero x y most same = omega arith
at_most_hit (suc c) x y most same = omega (arith, most, ap (λ b. if_hit b) (same_number x y (same (omega arith))))
  where
    if_hit : Bool → ℕ
    if_hit b = if b then 1 else 0

-- where v is a new argument of a block, nothing else defines it
argument_new : (p : Pass) (bits : ℕ) (new : Supply) (f : Op) → TableOnce bits p.table → Fresh new f → (v : ℕ) → NamedBlock v new.argument → op_count v (replacements p bits new f) ≤ 0
argument_new p bits new f all fresh v there =
    let bound : Bound (HasValue new v) Used (op_count v f) (op_count v (replacements p bits new f)) = values_bound p bits new f all fresh v in
    let has : HasValue new v 0 2 = record { place = of_block there.label there.place; is = there.is; number = refl; piece = refl } in
    omega (
      arith,
      bound.most,
      nothing (op_count v f) (λ old. old_or_new new v 0 2 (value_old new f fresh v old) has),
      nothing bound.extra (λ some. not_used (bound.few.from some) has),
    )
  where
    nothing : (n : ℕ) → (1 ≤ n → ⊥) → n ≤ 0
    nothing zero none = omega arith
    nothing (suc n) none = absurd (none (omega arith))

    not_used : Found (HasValue new v) Used → HasValue new v 0 2 → ⊥
    not_used found has =
        let same : (found.number ≡ 0) × (found.piece ≡ 2) = value_unique new f fresh v found.number found.piece 0 2 found.has has in
        omega (arith, found.inside same.0, same.1)

blocks_by : (before extra after : ℕ) → after ≤ before + extra → before ≤ 1 → (1 ≤ extra → (before ≤ 0) × (extra ≤ 1)) → after ≤ 1
blocks_by before zero after most once new = omega (arith, most, once)
blocks_by before (suc extra) after most once new = omega (arith, most, (new (omega arith)).0, (new (omega arith)).1)

one_block : (new : Supply) (f : Op) → Fresh new f → (v : ℕ) (there : NamedBlock v new.argument) (m room : ℕ) → named_count v (new.argument m) 0 room ≤ hits there.label m
one_block new f fresh v there m room =
    at_most_hit (named_count v (new.argument m) 0 room) m there.label (block_most new f fresh v m room) (λ some.
    let at : NamedAt v (new.argument m) 0 = named_at v (new.argument m) 0 room some in
    (both m there.label at.place there.place (places_same new f fresh v (of_block m at.place) (of_block there.label there.place) at.is there.is)).0)

blocks_once : (p : Pass) (bits : ℕ) (new : Supply) (f : Op) → TableOnce bits p.table → Fresh new f → DefinesOnce f → LabelsOnce f → (b : Bool) → DefinesOnce (with_blocks b bits new (copies_left_out (replacements p bits new f)))
blocks_once p bits new f all fresh once labels false v = omega (arith, copies_total (hits v) none (replacements p bits new f), replaced_values p bits new f all fresh once v)
blocks_once p bits new f all fresh once labels true v =
    let g : Op = replacements p bits new f in
    let more : More v new.argument (op_total (hits v) none (copies_left_out g)) (op_total (hits v) none (with_blocks true bits new (copies_left_out g))) (λ l. op_total none (hits l) (copies_left_out g)) =
    op_more v bits new.argument (copies_left_out g) in
    blocks_by (op_count v (copies_left_out g)) more.extra (op_count v (with_blocks true bits new (copies_left_out g))) more.most
    (omega (arith, copies_total (hits v) none g, replaced_values p bits new f all fresh once v))
    (λ some.
    let there : NamedBlock v new.argument = more.found some in (
      omega (arith, copies_total (hits v) none g, argument_new p bits new f all fresh v there),
      omega (arith, more.within there.label (one_block new f fresh v there), copies_total none (hits there.label) g, replaced_labels p bits new f all fresh labels there.label),
    ))

finished_once : (v : ℕ) (mode : Mode) (g : Op) → op_count v (finished mode g) ≤ op_count v g
finished_once v Partial g = omega arith
finished_once v Full g = reconciled_total (hits v) none g

abbrev result_or : Op → Result Op Unlegalised → Op
result_or other (Ok g) = g
result_or other (Err e) = other

abbrev is_ok_result : Result Op Unlegalised → Bool
is_ok_result (Ok g) = true
is_ok_result (Err e) = false

answer_is : (f g : Op) (e : Option Unlegalised) → or_fails f e ≡ Ok g → f ≡ g
answer_is f g None is = ap (result_or f) is
answer_is f g (Some e) is = absurd (true≢false (sym (ap is_ok_result is)))

pub conversion_once : ConversionOnce
conversion_once p bits new f g all fresh once labels is v =
    subst (λ h. op_count v h ≤ 1) (answer_is (converted p bits new f) g (first_unlegalised p bits new (types_of f) (operations f)) is)
    (omega (
      arith,
      finished_once v p.mode (with_blocks p.blocks bits new (copies_left_out (replacements p bits new f))),
      blocks_once p bits new f all fresh once labels p.blocks v,
    ))
