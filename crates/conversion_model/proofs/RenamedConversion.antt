-- Renaming: the conversion of a renamed function is the renamed conversion.
use Rattle.std.proofs.Common.{◌≡◌, ℕ, ◌+◌, Bool, true, false, List, [], ◌∷◌, Option, Some, None, refl, ap, ◌∙◌, subst}
use Rattle.std.specs.Prelude.{◌&&◌, not, is_some, flat_map, if◌then◌else◌}
use Rattle.plain_tree.specs.Types.{PlainType}
use Rattle.plain_tree.specs.Ops.{Op}
use Rattle.conversion_model.specs.Templates.{Template}
use Rattle.conversion_model.specs.Targets.{Shape, Mode, Partial, Full, demanded, is_legal, name_of, shape_of}
use Rattle.conversion_model.specs.Rows.{Frame, Piece, Part}
use Rattle.conversion_model.specs.Chosen.{chosen}
use Rattle.conversion_model.specs.Choice.{Choice}
use Rattle.conversion_model.specs.Items.{From, HeldBlock, whole_items}
use Rattle.conversion_model.specs.Uses.{operations, types_of}
use Rattle.conversion_model.specs.Conversion.{Pass, Supply, Unlegalised, choice_in, conv, converted, finished, first_unlegalised, framed_blocks, framed_regions, function_by, is_source, line_by, line_of, or_fails, params_from, params_of, pieces_of, regions_of, replacements, ways, with_blocks}
use Rattle.conversion_model.specs.Renamings.{none_all, RenValues, none_values, more_values, RenOp, ren_op, RenRegions, regions_ended, ren_region, RenBlocks, blocks_ended, OneToOne, TypesAgree, TableRenames, RenSupply, RenAnswer, same_failure, ren_function, ConversionRenames}
use Rattle.conversion_model.proofs.RenamedTypes.{name_same, shapes, types_agree}
use Rattle.conversion_model.proofs.RenamedLines.{RenList, list_ended, list_more, numbers_ren, written_ren}
use Rattle.conversion_model.proofs.RenamedChoice.{RenChoice, no_choice, ren_stays, ren_line, ren_cuts, ren_frames, choice_ren}
use Rattle.conversion_model.proofs.RenamedItems.{RenHolds, holds_ended, more_holds, RenHeldRegions, held_ended, more_held, RenWay, no_way, ren_way, RenWays, held_regions_ren, puts_ren, ren_begins, regions_ren, text_ren, whole_ren}
use Rattle.conversion_model.proofs.RenamedUses.{RenListed, listed_ended, more_listed, left_out_ren, op_blocks_ren, operations_ren}
use Rattle.conversion_model.proofs.RenamedReconcile.{reconciled_ren}

-- What stands for an operation

line_by_ren : {R L : ℕ → ℕ → Type 0} {o p : Op} (f g : ℕ → ℕ) (t : Option Template) → OneToOne R → ((k : ℕ) → R (f k) (g k)) → RenOp R L o p → RenList R L (line_by f o t) (line_by g p t)
line_by_ren f g None one new r = list_more r list_ended
line_by_ren f g (Some t) one new (ren_op vs os r ls) = written_ren f g one new vs os ls t list_ended

itself_or : {R L : ℕ → ℕ → Type 0} {o p : Op} {xs ys : List Op} (b : Bool) → RenOp R L o p → RenList R L xs ys → RenList R L (if b then o ∷ [] else xs) (if b then p ∷ [] else ys)
itself_or true r more = list_more r list_ended
itself_or false r more = more

line_ren : {R L : ℕ → ℕ → Type 0} (p : Pass) (bits : ℕ) (new other : Supply) → OneToOne R → RenSupply R L new other → (from : From) (shape : Shape) (o q : Op) → RenOp R L o q
    → RenList R L (line_of p bits new from shape o) (line_of p bits other from shape q)
line_ren p bits new other one supply from shape o q r =
    itself_or (is_source from.path && not (demanded p.mode p.target shape)) r
    (itself_or (is_legal p.target shape) r
    (line_by_ren (new.value from.number from.piece) (other.value from.number from.piece) (chosen bits p.target p.table from.path shape) one (supply.values from.number from.piece) r))

choice_in_ren : {R L : ℕ → ℕ → Type 0} {o q : Op} (p : Pass) (bits : ℕ) (new other : Supply) (s t : ℕ → PlainType) (n : ℕ) → OneToOne R → TableRenames bits p.table → RenSupply R L new other → TypesAgree R s t → RenOp R L o q
    → RenChoice R L (choice_in p bits new s n o) (choice_in p bits other t n q)
choice_in_ren p bits new other s t n one all supply agree r = choice_ren bits p.target p.table (new.row n) (other.row n) s t one (supply.rows n) agree all r

pieces_ren : {R L : ℕ → ℕ → Type 0} {x y : Option Choice} → RenChoice R L x y → RenWay R L (pieces_of x) (pieces_of y)
pieces_ren no_choice = no_way
pieces_ren ren_stays = no_way
pieces_ren ren_line = no_way
pieces_ren (ren_cuts ps) = ren_way ps
pieces_ren ren_frames = no_way

way_if : {R L : ℕ → ℕ → Type 0} {x y : Option (ℕ × List Piece)} (b c : Bool) → b ≡ c → RenWay R L x y → RenWay R L (if b then x else None) (if c then y else None)
way_if {R = R} {L = L} {x = x} {y = y} b c same r = subst (λ d. RenWay R L (if b then x else None) (if d then y else None)) same (at b)
  where
    at : (b : Bool) → RenWay R L (if b then x else None) (if b then y else None)
    at true = r
    at false = no_way

ways_ren : {R L : ℕ → ℕ → Type 0} (p : Pass) (bits : ℕ) (new other : Supply) (s t : ℕ → PlainType) → OneToOne R → TableRenames bits p.table → RenSupply R L new other → TypesAgree R s t
    → RenWays R L (ways p bits new s) (ways p bits other t)
ways_ren p bits new other s t one all supply agree = record {
  cuts = λ n o q r. way_if (demanded p.mode p.target (shape_of s o)) (demanded p.mode p.target (shape_of t q)) (ap (demanded p.mode p.target) (shapes s t agree r)) (pieces_ren (choice_in_ren p bits new other s t n one all supply agree r));
  line = line_ren p bits new other one supply;
  shape = λ o q r. shapes s t agree r;
}

-- The function itself

params_ren : {R : ℕ → ℕ → Type 0} (f g : ℕ → ℕ) → ((k : ℕ) → R (f k) (g k)) → (k : ℕ) (ts : List PlainType) → RenValues R (params_from f k ts) (params_from g k ts)
params_ren f g new k [] = none_values
params_ren f g new k (t ∷ ts) = more_values (new k) (params_ren f g new (k + 1) ts)

framed_blocks_ren : {R L : ℕ → ℕ → Type 0} {hs ks : List HeldBlock} (new other : Supply) (f : Frame) (entry : Template) → OneToOne R → RenSupply R L new other → RenHolds R L hs ks
    → RenBlocks R L (framed_blocks new f entry hs) (framed_blocks other f entry ks)
framed_blocks_ren new other f entry one supply holds_ended = blocks_ended
framed_blocks_ren {R = R} new other f entry one supply (more_holds {hs = hs} {ks = ks} h rest) =
    let params : RenValues R (params_of new f) (params_of other f) = params_ren new.parameter other.parameter supply.parameters 0 (flat_map (λ (part : Part). part.takes) f.entry) in
    (text_ren (ren_begins h.label params
    (puts_ren (written_ren (new.value 0 0) (other.value 0 0) one (supply.values 0 0) h.args (numbers_ren params) none_all entry list_ended)
    (h.whole (whole_items hs) (whole_items ks) (whole_ren rest))))).blocks

framed_regions_ren : {R L : ℕ → ℕ → Type 0} {hs ks : List (List HeldBlock)} (new other : Supply) (f : Frame) (entry : Template) → OneToOne R → RenSupply R L new other → RenHeldRegions R L hs ks
    → RenRegions R L (framed_regions new f entry hs) (framed_regions other f entry ks)
framed_regions_ren new other f entry one supply held_ended = regions_ended
framed_regions_ren new other f entry one supply (more_held h rest) = ren_region (framed_blocks_ren new other f entry one supply h) (regions_ren rest)

function_ren : {R L : ℕ → ℕ → Type 0} {f g : Op} {x y : Option Choice} {hs ks : List (List HeldBlock)} (new other : Supply) → OneToOne R → RenSupply R L new other → RenOp R L f g → RenChoice R L x y → RenHeldRegions R L hs ks
    → RenOp R L (function_by new f x hs) (function_by other g y ks)
function_ren new other one supply (ren_op {k = k} vs os r ls) no_choice hs = ren_op {k = k} vs os (regions_ren hs) ls
function_ren new other one supply (ren_op {k = k} vs os r ls) ren_stays hs = ren_op {k = k} vs os (regions_ren hs) ls
function_ren new other one supply (ren_op {k = k} vs os r ls) ren_line hs = ren_op {k = k} vs os (regions_ren hs) ls
function_ren new other one supply (ren_op {k = k} vs os r ls) (ren_cuts ps) hs = ren_op {k = k} vs os (regions_ren hs) ls
function_ren new other one supply (ren_op vs os r ls) (ren_frames {f = f} {t = t}) hs = ren_op vs os (framed_regions_ren new other f t one supply hs) ls

choice_if : {R L : ℕ → ℕ → Type 0} {x y : Option Choice} (b c : Bool) → b ≡ c → RenChoice R L x y → RenChoice R L (if b then x else None) (if c then y else None)
choice_if {R = R} {L = L} {x = x} {y = y} b c same r = subst (λ d. RenChoice R L (if b then x else None) (if d then y else None)) same (at b)
  where
    at : (b : Bool) → RenChoice R L (if b then x else None) (if b then y else None)
    at true = r
    at false = no_choice

regions_of_ren : {R L : ℕ → ℕ → Type 0} {f g : Op} → RenOp R L f g → RenRegions R L (regions_of f) (regions_of g)
regions_of_ren (ren_op vs os r ls) = r

pub replacements_ren : {R L : ℕ → ℕ → Type 0} {f g : Op} (p : Pass) (bits : ℕ) (new other : Supply) → OneToOne R → TableRenames bits p.table → RenSupply R L new other → RenOp R L f g
    → RenOp R L (replacements p bits new f) (replacements p bits other g)
replacements_ren {R = R} {f = f} {g = g} p bits new other one all supply r =
    let agree : TypesAgree R (types_of f) (types_of g) = types_agree one r in
    function_ren new other one supply r
    (choice_if (demanded p.mode p.target (shape_of (types_of f) f)) (demanded p.mode p.target (shape_of (types_of g) g)) (ap (demanded p.mode p.target) (shapes (types_of f) (types_of g) agree r))
    (choice_in_ren p bits new other (types_of f) (types_of g) 0 one all supply agree r))
    (held_regions_ren (ways p bits new (types_of f)) (ways p bits other (types_of g)) (ways_ren p bits new other (types_of f) (types_of g) one all supply agree) 1 (regions_of_ren r))

with_blocks_ren : {R L : ℕ → ℕ → Type 0} {f g : Op} (b : Bool) (bits : ℕ) (new other : Supply) → RenSupply R L new other → RenOp R L f g → RenOp R L (with_blocks b bits new f) (with_blocks b bits other g)
with_blocks_ren true bits new other supply r = op_blocks_ren bits new.argument other.argument supply.arguments r
with_blocks_ren false bits new other supply r = r

finished_ren : {R L : ℕ → ℕ → Type 0} {f g : Op} (mode : Mode) → OneToOne R → RenOp R L f g → RenOp R L (finished mode f) (finished mode g)
finished_ren Partial one r = r
finished_ren Full one r = reconciled_ren one r

pub converted_ren : {R L : ℕ → ℕ → Type 0} {f g : Op} (p : Pass) (bits : ℕ) (new other : Supply) → OneToOne R → TableRenames bits p.table → RenSupply R L new other → RenOp R L f g
    → RenOp R L (converted p bits new f) (converted p bits other g)
converted_ren p bits new other one all supply r =
    finished_ren p.mode one (with_blocks_ren p.blocks bits new other supply (left_out_ren one (replacements_ren p bits new other one all supply r)))

-- Failures

there_same : {R L : ℕ → ℕ → Type 0} {x y : Option Choice} → RenChoice R L x y → is_some x ≡ is_some y
there_same no_choice = refl
there_same ren_stays = refl
there_same ren_line = refl
there_same (ren_cuts ps) = refl
there_same ren_frames = refl

abbrev failure_if : Bool → ℕ → List ℕ → Option Unlegalised → Option Unlegalised
failure_if b n name rest = if b then Some (record { number = n; name = name }) else rest

failures_same : {R L : ℕ → ℕ → Type 0} {os qs : List (ℕ × Op)} (p : Pass) (bits : ℕ) (new other : Supply) (s t : ℕ → PlainType) → OneToOne R → TableRenames bits p.table → RenSupply R L new other → TypesAgree R s t → RenListed R L os qs
    → first_unlegalised p bits new s os ≡ first_unlegalised p bits other t qs
failures_same p bits new other s t one all supply agree listed_ended = refl
failures_same p bits new other s t one all supply agree (more_listed {n = n} {o = o} {p = q} {os = os} {ps = qs} r rest) =
    ap (λ b. failure_if (b && not (is_some (choice_in p bits new s n o))) n (name_of o) (first_unlegalised p bits new s os)) (ap (demanded p.mode p.target) (shapes s t agree r))
    ∙ ap (λ b. failure_if (demanded p.mode p.target (shape_of t q) && not b) n (name_of o) (first_unlegalised p bits new s os)) (there_same (choice_in_ren p bits new other s t n one all supply agree r))
    ∙ ap (λ name. failure_if (demanded p.mode p.target (shape_of t q) && not (is_some (choice_in p bits other t n q))) n name (first_unlegalised p bits new s os)) (name_same r)
    ∙ ap (λ e. failure_if (demanded p.mode p.target (shape_of t q) && not (is_some (choice_in p bits other t n q))) n (name_of q) e) (failures_same p bits new other s t one all supply agree rest)

answer_ren : {R L : ℕ → ℕ → Type 0} {f g : Op} (e : Option Unlegalised) → RenOp R L f g → RenAnswer R L (or_fails f e) (or_fails g e)
answer_ren None r = ren_function r
answer_ren (Some e) r = same_failure

pub conversion_renames : ConversionRenames
conversion_renames R L p bits new other f g one labels all supply r =
    subst (λ e. RenAnswer R L (conv p bits new f) (or_fails (converted p bits other g) e))
    (failures_same p bits new other (types_of f) (types_of g) one all supply (types_agree one r) (operations_ren r))
    (answer_ren (first_unlegalised p bits new (types_of f) (operations f)) (converted_ren p bits new other one all supply r))
