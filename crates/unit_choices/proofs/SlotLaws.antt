-- Slots of operations, and slots one after another.
use Rattle.std.proofs.Common.{◌≡◌, ℕ, zero, suc, ◌+◌, ◌<◌, ◌≤◌, Bool, true, false, not, ◌&&◌, List, [], ◌∷◌, ◌++◌, append_assoc, drop, get_or, length, map, Option, Some, None, is_some, refl, sym, ap, subst, ◌∙◌, arith}
use Rattle.std.specs.Prelude.{if◌then◌else◌}
use Rattle.std.proofs.lemmas.List.{append-nil, drop_more, drop_all}
use Rattle.plain_tree.specs.Types.{PlainType}
use Rattle.plain_tree.specs.Ops.{Op, op}
use Rattle.conversion_model.specs.declared.templates.TemplateTree.{TemplateTree}
use Rattle.conversion_model.specs.Templates.{Template}
use Rattle.conversion_model.specs.Targets.{Shape, demanded, is_legal, name_of, shape_of}
use Rattle.conversion_model.specs.Chosen.{chosen}
use Rattle.conversion_model.specs.Choice.{Choice, choice}
use Rattle.conversion_model.specs.Choice as choices
use Rattle.conversion_model.specs.Items.{Ways}
use Rattle.conversion_model.specs.Uses.{operations, regions_listed, types_of}
use Rattle.conversion_model.specs.Conversion.{Pass, Supply, Unlegalised, choice_in, first_unlegalised, line_by, pieces_of, regions_of, ways}
use Rattle.conversion_model.specs.Fresh.{Fresh}
use Rattle.choice_code.specs.Plain.{plain_template}
use Rattle.unit_slots.specs.declared.slots.Choices.{Choices}
use Rattle.unit_slots.specs.declared.slots.CutTree.{CutTree}
use Rattle.unit_slots.specs.declared.slots.Framing.{Framing}
use Rattle.unit_slots.specs.declared.slots.Slot.{Slot}
use Rattle.unit_slots.specs.declared.slots.Slot.TheVariants.{Keeps, Line, Cuts}
use Rattle.unit_slots.specs.Slots.{EachListed, IsLine, SlotSays, SlotsSay, framing_in, plain_framing}
use Rattle.unit_choices.specs.declared.choice_tree.ChoiceTree.{ChoiceTree}
use Rattle.unit_choices.specs.declared.choice_tree.ChoiceTree.TheVariants as found
use Rattle.unit_choices.specs.declared.unlegalised.UnlegalisedTree.{UnlegalisedTree}
use Rattle.unit_choices.specs.Answers.{Chose, FramingIs, choice_demanded, framing_of, unlegalised}
use Rattle.unit_choices.specs.Choosing.{ChoiceStands, choice_of}
use Rattle.unit_choices.specs.Lines.{own_or_leaves}
use Rattle.unit_choices.specs.Separate.{Separate}
use Rattle.unit_choices.specs.Slotting.{EachSeparate, SlotFor, SlotIs, fails, numbered, slot_line}
use Rattle.unit_choices.proofs.LineLaws.{lines_say}
use Rattle.unit_choices.proofs.ListLaws.{inner, inner_numbered, operations_first}
use Rattle.unit_choices.proofs.RoomLaws.{Means, choice_means, order_below}

-- One slot

line_says : (w : Ways) (new : Supply) (type_of : ℕ → PlainType) (n : ℕ) (o : Op) (s : Slot) (x : Option Template) → slot_line s ≡ Some x → IsLine w new n o x → SlotSays w new type_of n o s
line_says w new type_of n o Keeps x e h = let same : x ≡ None = cc in subst (IsLine w new n o) same h
line_says w new type_of n o (Line t) x e h = let same : x ≡ Some (plain_template t.value) = cc in subst (IsLine w new n o) same h
line_says w new type_of n o (Cuts c) x e h = absurd (cc)

demanded_line : (d legal : Bool) (f : ℕ → ℕ) (kept : Op) (x : Option Template) → d ≡ true
    → (if true && not d then kept ∷ [] else (if legal then kept ∷ [] else line_by f kept x)) ≡ line_by f kept (if legal then None else x)
demanded_line false legal f kept x e = cc
demanded_line true true f (op k results operands regions successors) x e = refl
demanded_line true false f kept x e = refl

-- an operation that is demanded and isn't cut is the line of its leaves
is_line : (p : Pass) (bits : ℕ) (new : Supply) (type_of : ℕ → PlainType) (n : ℕ) (o : Op) (c : Choice) (x : Option Template) → demanded p.mode p.target (shape_of type_of o) ≡ true
    → Some c ≡ choice_in p bits new type_of n o → pieces_of (Some c) ≡ None → own_or_leaves p.target (chosen bits p.target p.table []) (shape_of type_of o) ≡ x
    → IsLine (ways p bits new type_of) new n o x
is_line p bits new type_of n o c x d e uncut own = (
  ap (λ b. if b then pieces_of (choice_in p bits new type_of n o) else None) d ∙ ap pieces_of (sym e) ∙ uncut,
  λ kept. demanded_line (demanded p.mode p.target (shape_of type_of o)) (is_legal p.target (shape_of type_of o)) (new.value n 0) kept (chosen bits p.target p.table [] (shape_of type_of o)) d
      ∙ ap (line_by (new.value n 0) kept) own,
)

not_failing : (p : Pass) (bits : ℕ) (new : Supply) (type_of : ℕ → PlainType) (n : ℕ) (o : Op) (c : Choice) → Some c ≡ choice_in p bits new type_of n o → fails p bits new type_of n o ≡ false
not_failing p bits new type_of n o c e =
    ap (λ (x : Option Choice). demanded p.mode p.target (shape_of type_of o) && not (is_some x)) (sym e) ∙ never (demanded p.mode p.target (shape_of type_of o))
  where
    never : (d : Bool) → (d && false) ≡ false
    never true = refl
    never false = refl

-- the slot of a choice
pub slot_is : (p : Pass) (bits : ℕ) (new : Supply) (type_of : ℕ → PlainType) (n : ℕ) (o : Op) (c : ChoiceTree) (s : Slot) → demanded p.mode p.target (shape_of type_of o) ≡ true
    → Some (choice_of (new.row n) type_of c) ≡ choice_in p bits new type_of n o → ChoiceStands p.target (chosen bits p.target p.table) type_of o (Some c) → Separate (new.row n) type_of o
    → SlotFor (chosen bits p.target p.table [] (shape_of type_of o)) c s → SlotIs p bits new type_of n o (Some s)
slot_is p bits new type_of n o c s d e stands apart is = (
  not_failing p bits new type_of n o (choice_of (new.row n) type_of c) e,
  says c (subst (λ (x : Option Choice). Means x (own_or_leaves p.target (chosen bits p.target p.table []) (shape_of type_of o)) (chosen bits p.target p.table [] (shape_of type_of o))) (sym e)
      (choice_means bits p.target p.table (new.row n) type_of o (order_below p.target p.table))) e stands is,
)
  where
    says : (c : ChoiceTree) → Means (Some (choice_of (new.row n) type_of c)) (own_or_leaves p.target (chosen bits p.target p.table []) (shape_of type_of o)) (chosen bits p.target p.table [] (shape_of type_of o))
        → Some (choice_of (new.row n) type_of c) ≡ choice_in p bits new type_of n o → ChoiceStands p.target (chosen bits p.target p.table) type_of o (Some c)
        → SlotFor (chosen bits p.target p.table [] (shape_of type_of o)) c s → SlotSays (ways p bits new type_of) new type_of n o s
    says found.Stays m e h k = line_says (ways p bits new type_of) new type_of n o s None k (is_line p bits new type_of n o choices.Stays None d e refl m)
    says (found.Line t) m e h k = line_says (ways p bits new type_of) new type_of n o s (Some (plain_template t)) k (is_line p bits new type_of n o (choices.Line (plain_template t)) (Some (plain_template t)) d e refl m)
    says (found.Frames f) m e h k =
        line_says (ways p bits new type_of) new type_of n o s (chosen bits p.target p.table [] (shape_of type_of o)) k
        (is_line p bits new type_of n o (choice_of (new.row n) type_of (found.Frames f)) (chosen bits p.target p.table [] (shape_of type_of o)) d e refl m)
    says (found.Cuts q) m e h k = subst (SlotSays (ways p bits new type_of) new type_of n o) (sym k) (
      ap (λ b. if b then pieces_of (choice_in p bits new type_of n o) else None) d ∙ ap pieces_of (sym e),
      lines_say p bits new type_of n q.place 1 q.pieces q.lines apart.one apart.untyped (λ j. h.own ((new.row n).value j) (apart.apart j)) h.lines,
    )

-- that of an operation that isn't demanded
pub slot_kept : (p : Pass) (bits : ℕ) (new : Supply) (type_of : ℕ → PlainType) (n : ℕ) (o : Op) → demanded p.mode p.target (shape_of type_of o) ≡ false → SlotIs p bits new type_of n o (Some Keeps)
slot_kept p bits new type_of n o d = (
  ap (λ b. b && not (is_some (choice_in p bits new type_of n o))) d,
  (
    ap (λ b. if b then pieces_of (choice_in p bits new type_of n o) else None) d,
    λ kept. kept_line (demanded p.mode p.target (shape_of type_of o)) (is_legal p.target (shape_of type_of o)) (new.value n 0) kept (chosen bits p.target p.table [] (shape_of type_of o)) d,
  ),
)
  where
    kept_line : (d legal : Bool) (f : ℕ → ℕ) (kept : Op) (x : Option Template) → d ≡ false
        → (if true && not d then kept ∷ [] else (if legal then kept ∷ [] else line_by f kept x)) ≡ line_by f kept None
    kept_line true legal f kept x e = cc
    kept_line false legal f (op k results operands regions successors) x e = refl

-- that of one that fails
pub slot_fails : (p : Pass) (bits : ℕ) (new : Supply) (type_of : ℕ → PlainType) (n : ℕ) (o : Op) → demanded p.mode p.target (shape_of type_of o) ≡ true → None ≡ choice_in p bits new type_of n o → fails p bits new type_of n o ≡ true
slot_fails p bits new type_of n o d e =
    ap (λ b. b && not (is_some (choice_in p bits new type_of n o))) d ∙ ap (λ (x : Option Choice). not (is_some x)) (sym e)

-- Slots one after another

-- the slots so far, of the operations in front of the k-th
pub record SoFar (p : Pass) (bits : ℕ) (new : Supply) (type_of : ℕ → PlainType) (os : List Op) (k : ℕ) (slots : List Slot) : Type 0 where
  pub none : first_unlegalised p bits new type_of (numbered (k + 1) (drop k os)) ≡ first_unlegalised p bits new type_of (numbered 1 os)
  pub all : (rest : List Slot) → EachListed (λ n o. SlotSays (ways p bits new type_of) new type_of n o (get_or (slots ++ rest) n Keeps)) (numbered (k + 1) (drop k os))
      → EachListed (λ n o. SlotSays (ways p bits new type_of) new type_of n o (get_or (slots ++ rest) n Keeps)) (numbered 1 os)

pub none_so_far : (p : Pass) (bits : ℕ) (new : Supply) (type_of : ℕ → PlainType) (os : List Op) (slots : List Slot) → SoFar p bits new type_of os 0 slots
none_so_far p bits new type_of os slots = record { none = refl; all = λ rest h. h }

at_end : (xs : List Slot) (s : Slot) (rest : List Slot) → get_or ((xs ++ s ∷ []) ++ rest) (length xs) Keeps ≡ s
at_end [] s rest = refl
at_end (x ∷ xs) s rest = at_end xs s rest

next_ops : (os : List Op) (k : ℕ) (o : Op) → k < length os → o ≡ get_or os k o → drop k os ≡ o ∷ drop (k + 1) os
next_ops os k o h is = drop_more os k o h ∙ ap (λ q. q ∷ drop (k + 1) os) (sym is)

pub slots_more : (p : Pass) (bits : ℕ) (new : Supply) (type_of : ℕ → PlainType) (os : List Op) (k : ℕ) (o : Op) (slots more : List Slot) (s : Slot) → k < length os → o ≡ get_or os k o
    → length slots ≡ k + 1 → more ≡ slots ++ s ∷ [] → SlotIs p bits new type_of (k + 1) o (Some s) → SoFar p bits new type_of os k slots → SoFar p bits new type_of os (k + 1) more
slots_more p bits new type_of os k o slots more s h is many e slot before = record {
  none =
      sym (ap (λ qs. first_unlegalised p bits new type_of (numbered (k + 1) qs)) (next_ops os k o h is)
      ∙ ap (λ b. if b then Some (record { number = k + 1; name = name_of o }) else first_unlegalised p bits new type_of (numbered (k + 1 + 1) (drop (k + 1) os))) slot.0)
      ∙ before.none;
  all = λ rest later.
      let W : Ways = ways p bits new type_of in
      let Says : List Slot → ℕ → Op → Type 0 = λ ss n o. SlotSays W new type_of n o (get_or ss n Keeps) in
      let one : get_or ((slots ++ s ∷ []) ++ rest) (k + 1) Keeps ≡ s = subst (λ n. get_or ((slots ++ s ∷ []) ++ rest) n Keeps ≡ s) many (at_end slots s rest) in
      let same : more ++ rest ≡ slots ++ s ∷ rest = ap (λ ss. ss ++ rest) e ∙ append_assoc slots (s ∷ []) rest in
      let here : get_or (slots ++ s ∷ rest) (k + 1) Keeps ≡ s = ap (λ ss. get_or ss (k + 1) Keeps) (sym (append_assoc slots (s ∷ []) rest)) ∙ one in
      let there : EachListed (Says (slots ++ s ∷ rest)) (numbered (k + 1 + 1) (drop (k + 1) os)) = subst (λ ss. EachListed (Says ss) (numbered (k + 1 + 1) (drop (k + 1) os))) same later in
      let both : EachListed (Says (slots ++ s ∷ rest)) (numbered (k + 1) (o ∷ drop (k + 1) os)) = (subst (SlotSays W new type_of (k + 1) o) (sym here) slot.1, there) in
      let whole : EachListed (Says (slots ++ s ∷ rest)) (numbered (k + 1) (drop k os)) = subst (λ qs. EachListed (Says (slots ++ s ∷ rest)) (numbered (k + 1) qs)) (sym (next_ops os k o h is)) both in
      subst (λ ss. EachListed (Says ss) (numbered 1 os)) (sym same) (before.all (s ∷ rest) whole);
}

-- the operation at a place fails
pub slots_fail : (p : Pass) (bits : ℕ) (new : Supply) (type_of : ℕ → PlainType) (os : List Op) (k : ℕ) (o : Op) (slots : List Slot) (e : Unlegalised) → k < length os → o ≡ get_or os k o
    → fails p bits new type_of (k + 1) o ≡ true → SoFar p bits new type_of os k slots → e ≡ record { number = k + 1; name = name_of o } → first_unlegalised p bits new type_of (numbered 1 os) ≡ Some e
slots_fail p bits new type_of os k o slots e h is bad before named =
    sym before.none
    ∙ ap (λ qs. first_unlegalised p bits new type_of (numbered (k + 1) qs)) (next_ops os k o h is)
    ∙ ap (λ b. if b then Some (record { number = k + 1; name = name_of o }) else first_unlegalised p bits new type_of (numbered (k + 1 + 1) (drop (k + 1) os))) bad
    ∙ ap Some (sym named)

pub slots_end : (p : Pass) (bits : ℕ) (new : Supply) (type_of : ℕ → PlainType) (os : List Op) (k : ℕ) (slots : List Slot) → length os ≤ k → SoFar p bits new type_of os k slots
    → (first_unlegalised p bits new type_of (numbered 1 os) ≡ None) × EachListed (λ n o. SlotSays (ways p bits new type_of) new type_of n o (get_or slots n Keeps)) (numbered 1 os)
slots_end p bits new type_of os k slots h before =
    let Says : List Slot → ℕ → Op → Type 0 = λ ss n o. SlotSays (ways p bits new type_of) new type_of n o (get_or ss n Keeps) in (
      sym before.none ∙ ap (λ qs. first_unlegalised p bits new type_of (numbered (k + 1) qs)) (drop_all k os h),
      subst (λ ss. EachListed (Says ss) (numbered 1 os)) (append-nil slots)
          (before.all [] (subst (λ qs. EachListed (Says (slots ++ [])) (numbered (k + 1) qs)) (sym (drop_all k os h)) tt)),
    )

-- the operation at a place is apart
pub separate_at : (new : Supply) (type_of : ℕ → PlainType) (os : List Op) (k : ℕ) (o : Op) → k < length os → o ≡ get_or os k o → EachSeparate new type_of os → (n : ℕ) → Separate (new.row n) type_of o
separate_at new type_of [] k o h is all n = absurd (omega (arith, h))
separate_at new type_of (q ∷ os) zero o h is all n = subst (Separate (new.row n) type_of) (sym is) (all.0 n)
separate_at new type_of (q ∷ os) (suc k) o h is all n = separate_at new type_of os k o (omega (arith, h)) is all.1 n

-- The function itself

framing_same : (new : Supply) (type_of : ℕ → PlainType) (c : ChoiceTree) → plain_framing (framing_of c) ≡ framing_in (Some (choice_of (new.row 0) type_of c))
framing_same new type_of found.Stays = refl
framing_same new type_of (found.Line t) = refl
framing_same new type_of (found.Cuts q) = refl
framing_same new type_of (found.Frames f) = refl

pub frame_is : (p : Pass) (bits : ℕ) (new : Supply) (type_of : ℕ → PlainType) (f : Op) (c : ChoiceTree) (framing : Option Framing) → demanded p.mode p.target (shape_of type_of f) ≡ true
    → Some (choice_of (new.row 0) type_of c) ≡ choice_in p bits new type_of 0 f → framing ≡ framing_of c
    → (fails p bits new type_of 0 f ≡ false) × (plain_framing framing ≡ framing_in (choice_demanded p bits new type_of 0 f))
frame_is p bits new type_of f c framing d e is = (
  not_failing p bits new type_of 0 f (choice_of (new.row 0) type_of c) e,
  ap plain_framing is ∙ framing_same new type_of c ∙ ap framing_in e
      ∙ sym (ap (λ b. framing_in (if b then choice_in p bits new type_of 0 f else None)) d),
)

pub no_frame : (p : Pass) (bits : ℕ) (new : Supply) (type_of : ℕ → PlainType) (f : Op) → demanded p.mode p.target (shape_of type_of f) ≡ false
    → (fails p bits new type_of 0 f ≡ false) × (plain_framing None ≡ framing_in (choice_demanded p bits new type_of 0 f))
no_frame p bits new type_of f d = (
  ap (λ b. b && not (is_some (choice_in p bits new type_of 0 f))) d,
  sym (ap (λ b. framing_in (if b then choice_in p bits new type_of 0 f else None)) d),
)

-- The whole

whole_list : (p : Pass) (bits : ℕ) (new : Supply) (f : Op) → first_unlegalised p bits new (types_of f) (operations f)
    ≡ (if fails p bits new (types_of f) 0 f then Some (record { number = 0; name = name_of f }) else first_unlegalised p bits new (types_of f) (numbered 1 (inner f)))
whole_list p bits new f =
    ap (first_unlegalised p bits new (types_of f)) (operations_first f)
    ∙ ap (λ (os : List (ℕ × Op)). if fails p bits new (types_of f) 0 f then Some (record { number = 0; name = name_of f }) else first_unlegalised p bits new (types_of f) os) (inner_numbered f)

-- the function itself fails
pub first_fails : (p : Pass) (bits : ℕ) (new : Supply) (f : Op) (e : Unlegalised) → fails p bits new (types_of f) 0 f ≡ true → e ≡ record { number = 0; name = name_of f }
    → first_unlegalised p bits new (types_of f) (operations f) ≡ Some e
first_fails p bits new f e bad named =
    whole_list p bits new f
    ∙ ap (λ b. if b then Some (record { number = 0; name = name_of f }) else first_unlegalised p bits new (types_of f) (numbered 1 (inner f))) bad
    ∙ ap Some (sym named)

behind_frame : (p : Pass) (bits : ℕ) (new : Supply) (f : Op) → fails p bits new (types_of f) 0 f ≡ false
    → first_unlegalised p bits new (types_of f) (operations f) ≡ first_unlegalised p bits new (types_of f) (numbered 1 (inner f))
behind_frame p bits new f good =
    whole_list p bits new f
    ∙ ap (λ b. if b then Some (record { number = 0; name = name_of f }) else first_unlegalised p bits new (types_of f) (numbered 1 (inner f))) good

-- an operation in it fails
pub inner_fails : (p : Pass) (bits : ℕ) (new : Supply) (f : Op) (os : List Op) (e : Unlegalised) → fails p bits new (types_of f) 0 f ≡ false → os ≡ inner f
    → first_unlegalised p bits new (types_of f) (numbered 1 os) ≡ Some e → first_unlegalised p bits new (types_of f) (operations f) ≡ Some e
inner_fails p bits new f os e good same is =
    behind_frame p bits new f good ∙ ap (λ qs. first_unlegalised p bits new (types_of f) (numbered 1 qs)) (sym same) ∙ is

pub all_chosen : (p : Pass) (bits : ℕ) (new : Supply) (f : Op) (os : List Op) (c : Choices) → (fails p bits new (types_of f) 0 f ≡ false) × (plain_framing c.framing ≡ framing_in (choice_demanded p bits new (types_of f) 0 f))
    → os ≡ inner f
    → (first_unlegalised p bits new (types_of f) (numbered 1 os) ≡ None) × EachListed (λ n o. SlotSays (ways p bits new (types_of f)) new (types_of f) n o (get_or c.slots.items n Keeps)) (numbered 1 os)
    → Chose p bits new f c
all_chosen p bits new f os c frame same is =
    let Says : ℕ → Op → Type 0 = λ n o. SlotSays (ways p bits new (types_of f)) new (types_of f) n o (get_or c.slots.items n Keeps) in
    record {
      all = behind_frame p bits new f frame.0 ∙ ap (λ qs. first_unlegalised p bits new (types_of f) (numbered 1 qs)) (sym same) ∙ is.0;
      slots = subst (λ (qs : List (ℕ × Op)). EachListed Says qs) (sym (inner_numbered f)) (subst (λ qs. EachListed Says (numbered 1 qs)) same is.1);
      framing = frame.1;
    }
