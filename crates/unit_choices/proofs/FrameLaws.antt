-- Frames of functions.
use Rattle.std.proofs.Common.{◌≡◌, ℕ, Bool, true, false, List, [], ◌∷◌, map, Option, Some, None, is_some, refl, sym, ap, ◌∙◌}
use Rattle.std.specs.Prelude.{option_map, slice_get}
use Rattle.std.proofs.lemmas.Option.{slice_get-map}
use Rattle.tree_model.specs.declared.type_tree.TypeTree.{TypeTree}
use Rattle.plain_tree.specs.Types.{PlainType, plain_type, type_tree}
use Rattle.plain_tree.specs.Attrs.{entries_tree, plain_entries}
use Rattle.plain_tree.specs.Ops.{Op}
use Rattle.plain_tree.proofs.TypeOpens.{plain_again}
use Rattle.plain_tree.proofs.AttrOpens.{entries_again}
use Rattle.conversion_model.specs.Templates.{Template, template_tree}
use Rattle.conversion_model.specs.Targets.{Shape}
use Rattle.conversion_model.specs.Rows.{Frame, Part, Pattern}
use Rattle.conversion_model.specs.Chosen.{Leaves, and_then, change_of}
use Rattle.conversion_model.specs.Choice.{Choice, Frames, entry_leaves, first_arguments, frame_shape, framed}
use Rattle.legal_graph.specs.declared.infos.PatternInfo.{PatternInfo}
use Rattle.legal_graph.specs.Graphs.{info_of}
use Rattle.choice_code.specs.Plain.{plain_template}
use Rattle.choice_code.specs.Infos.{converted_in, converted_or_not}
use Rattle.choice_code.proofs.ChoiceLaws.{template_again}
use Rattle.cut_code.specs.declared.frames.FrameTree.{FrameTree}
use Rattle.cut_code.specs.Frames.{frame_tree, framing, framing_at, part_tree}
use Rattle.cut_code.specs.Frames as frames
use Rattle.unit_slots.specs.Slots.{plain_frame, plain_part}
use Rattle.unit_choices.specs.Choosing.{frame_by}

types_again : (ts : List PlainType) → map plain_type (map type_tree ts) ≡ ts
types_again [] = refl
types_again (t ∷ ts) = ap (λ u. u ∷ map plain_type (map type_tree ts)) (plain_again t) ∙ ap (λ us. t ∷ us) (types_again ts)

part_again : (p : Part) → plain_part (part_tree p) ≡ p
part_again p =
    ap (λ ts. record { takes = ts; gives = plain_template (template_tree p.gives) }) (types_again p.takes)
    ∙ ap (λ t. record { takes = p.takes; gives = t }) (template_again p.gives)

parts_again : (ps : List Part) → map plain_part (map part_tree ps) ≡ ps
parts_again [] = refl
parts_again (p ∷ ps) = ap (λ q. q ∷ map plain_part (map part_tree ps)) (part_again p) ∙ ap (λ qs. p ∷ qs) (parts_again ps)

frame_again : (f : Frame) → plain_frame (frame_tree f) ≡ f
frame_again f =
    ap (λ es. record { name = f.name; props = es; attrs = plain_entries (entries_tree f.attrs); entry = map plain_part (map part_tree f.entry) }) (entries_again f.props)
    ∙ ap (λ es. record { name = f.name; props = f.props; attrs = es; entry = map plain_part (map part_tree f.entry) }) (entries_again f.attrs)
    ∙ ap (λ ps. record { name = f.name; props = f.props; attrs = f.attrs; entry = ps }) (parts_again f.entry)

-- With what is chosen

-- what a frame makes isn't legalised
pub shape_fails : (change : PlainType → Option PlainType) (leaves : Leaves) (o : Op) (f : Frame) (s : Shape) (same : Option Template) → s ≡ frame_shape f → same ≡ leaves s → is_some same ≡ false → None ≡ framed change leaves o f
shape_fails change leaves o f s None seen e h =
    sym (ap (λ x. and_then x (λ same. and_then (entry_leaves change leaves (map (λ v. v.1) (first_arguments o)) 0 f.entry 0) (λ entry. Some (Frames f entry)))) (ap leaves (sym seen) ∙ sym e))
shape_fails change leaves o f s (Some t) seen e h = cc

-- the steps at its start
pub start_given : (change : PlainType → Option PlainType) (leaves : Leaves) (o : Op) (f : Frame) (s : Shape) (same : Option Template) (args : List (ℕ × TypeTree)) (x : Option Template) → s ≡ frame_shape f → same ≡ leaves s → is_some same ≡ true
    → map (λ v. plain_type v.1) args ≡ map (λ v. v.1) (first_arguments o) → x ≡ entry_leaves change leaves (map (λ v. plain_type v.1) args) 0 f.entry 0
    → and_then x (λ entry. Some (Frames f entry)) ≡ framed change leaves o f
start_given change leaves o f s None args x seen e h types is = cc
start_given change leaves o f s (Some t) args x seen e h types is =
    let start : Option Template → Option Choice = λ y. and_then y (λ entry. Some (Frames f entry)) in
    ap start (is ∙ ap (λ ts. entry_leaves change leaves ts 0 f.entry 0) types)
    ∙ sym (ap (λ y. and_then y (λ same. start (entry_leaves change leaves (map (λ v. v.1) (first_arguments o)) 0 f.entry 0))) (ap leaves (sym seen) ∙ sym e))

-- By the row at a place

frame_found : (change : PlainType → Option PlainType) (leaves : Leaves) (o : Op) (frame : FrameTree) (f : Option Frame) (x : Option Choice)
    → Some frame ≡ frames.frame_or_none f → x ≡ framed change leaves o (plain_frame frame) → x ≡ and_then f (framed change leaves o)
frame_found change leaves o frame None x e is = cc
frame_found change leaves o frame (Some f) x e is =
    let same : frame ≡ frame_tree f = cc in
    is ∙ ap (framed change leaves o) (ap plain_frame same ∙ frame_again f)

found_by : (bits : ℕ) (leaves : Leaves) (o : Op) (s : Shape) (p : Option Pattern) (frame : FrameTree) (converted : Bool) (x : Option Choice)
    → Some frame ≡ frames.frame_or_none (framing_at bits p s) → converted ≡ converted_or_not (option_map info_of p) → x ≡ framed (change_of bits converted) leaves o (plain_frame frame) → x ≡ frame_by bits leaves o s p
found_by bits leaves o s None frame converted x e c is = cc
found_by bits leaves o s (Some p) frame converted x e c is =
    frame_found (change_of bits p.is_converted) leaves o frame (framing (p.row bits) s) x e (is ∙ ap (λ b. framed (change_of bits b) leaves o (plain_frame frame)) c)

pub frame_at : (bits : ℕ) (table : List Pattern) (leaves : Leaves) (o : Op) (s : Shape) (place : ℕ) (infos : List PatternInfo) (frame : FrameTree) (converted : Bool) (x : Option Choice)
    → Some frame ≡ frames.frame_or_none (framing_at bits (slice_get table place) s) → infos ≡ map info_of table → converted ≡ converted_in infos place
    → x ≡ framed (change_of bits converted) leaves o (plain_frame frame) → x ≡ frame_by bits leaves o s (slice_get table place)
frame_at bits table leaves o s place infos frame converted x e same c is =
    found_by bits leaves o s (slice_get table place) frame converted x e
    (c ∙ ap (λ (is : List PatternInfo). converted_in is place) same ∙ ap converted_or_not (slice_get-map info_of table place)) is

no_frame : (f : Option Frame) (change : PlainType → Option PlainType) (leaves : Leaves) (o : Op) → None ≡ frames.frame_or_none f → None ≡ and_then f (framed change leaves o)
no_frame None change leaves o e = refl
no_frame (Some f) change leaves o e = cc

-- there is none
pub frame_missing : (bits : ℕ) (leaves : Leaves) (o : Op) (s : Shape) (p : Option Pattern) → None ≡ frames.frame_or_none (framing_at bits p s) → None ≡ frame_by bits leaves o s p
frame_missing bits leaves o s None e = refl
frame_missing bits leaves o s (Some p) e = no_frame (framing (p.row bits) s) (change_of bits p.is_converted) leaves o e
