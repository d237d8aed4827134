-- The function type of an operation, seen from its names and operands: what stands between is passed over.
use Rattle.std.proofs.Common.{◌≡◌, ℕ, suc, Bool, true, false, List, refl, sym, ap, ◌∙◌, subst, true≢false}
use Rattle.text_grammar.specs.declared.places.Place.{Place}
use Rattle.text_grammar.specs.declared.places.Place.TheVariants as places
use Rattle.text_events.specs.declared.event.Event.{Event}
use Rattle.term_table.specs.Terms.{Term}
use Rattle.text_types.specs.Spelling.{Spelling}
use Rattle.text_types.specs.Items.{Aliases, begins}
use Rattle.text_types.specs.Marks.{marked, marked_at}
use Rattle.text_scopes.specs.declared.bodies.Class.{Class}
use Rattle.use_kinds.specs.Written.{passed, signature_behind}
use Rattle.event_trees.specs.Wording.{Wording}
use Rattle.begun_types.specs.Begun.{IsFunction}
use Rattle.read_uses.specs.Fine.{Args, Blocks, Body, Counting, Loc, Mute, Names, Ops, Regions, Uses, a_use, arg, block, body, is_mute, last_name, loc, many, mute_end, mute_more, next_name, no_args, no_blocks, no_loc, no_names, no_ops, no_regions, no_uses, one, op, region}
use Rattle.read_uses.specs.Laws.{FunctionBehind}
use Rattle.read_uses.specs.Moved.{Full, Moved, ends}

-- words that are passed over at any depth
abbrev pub is_passed : Place → Bool
is_passed places.SignatureOpen = false
is_passed places.RegionOpen = false
is_passed places.RegionClose = false
is_passed _ = true

mute_passed : (p : Place) → is_mute p ≡ true → is_passed p ≡ true
mute_passed places.SignatureOpen h = absurd (true≢false (sym h))
mute_passed places.RegionOpen h = absurd (true≢false (sym h))
mute_passed places.RegionClose h = absurd (true≢false (sym h))
mute_passed _ h = refl

passed_over : (p : Place) (b c : Bool) (here : List Event) (behind : ℕ → List Event) (over : ℕ) → is_passed p ≡ true → passed (marked_at p b c) here behind over ≡ behind over
passed_over places.SignatureOpen b c here behind over h = absurd (true≢false (sym h))
passed_over places.RegionOpen b c here behind over h = absurd (true≢false (sym h))
passed_over places.RegionClose b c here behind over h = absurd (true≢false (sym h))
passed_over places.ResultsOpen b true here behind over h = refl
passed_over places.ResultsOpen b false here behind over h = refl
passed_over places.ResultsClose true c here behind over h = refl
passed_over places.ResultsClose false c here behind over h = refl
passed_over _ b c here behind over h = refl

module _ (sp : Spelling) (index : ℕ → ℕ) (aliases : Aliases) (words : Wording) (class : ℕ → Class) (all : List Event) (numbers : List ℕ) (types : List (List Term)) where
  abbrev Takes : Place → Full → Full → Type 0
  Takes p x y = Moved sp index aliases words class all numbers types p x y

  -- what stands from the function type on, behind so many regions
  abbrev pub sig : Full → ℕ → List Event
  sig x over = signature_behind (ends sp index aliases words class all numbers types x) over

  abbrev Same : Full → Full → Type 0
  Same x y = (over : ℕ) → sig x over ≡ sig y over

  abbrev Deep : Full → Full → Type 0
  Deep x y = (over : ℕ) → sig x (suc over) ≡ sig y (suc over)

  word_sig : {p : Place} {x y : Full} → is_passed p ≡ true → Takes p x y → Same x y
  word_sig {p} {x} {y} h m = λ over. ap (λ es. signature_behind (marked es) over) m.move.event_is ∙ passed_over p _ _ _ (signature_behind (marked y.state.events)) over h

  pub mute_sig : {x y : Full} → Mute Takes x y → Same x y
  mute_sig (mute_end x) = λ over. refl
  mute_sig (mute_more p h m more) = λ over. word_sig (mute_passed p h) m over ∙ mute_sig more over

  loc_sig : {x y : Full} → Loc Takes x y → Same x y
  loc_sig (no_loc x) = λ over. refl
  loc_sig (loc b s e) = λ over. word_sig refl b over ∙ mute_sig s over ∙ word_sig refl e over

  counting_sig : {x y : Full} → Counting Takes x y → Same x y
  counting_sig (one x) = λ over. refl
  counting_sig (many a b) = λ over. word_sig refl a over ∙ word_sig refl b over

  pub names_sig : {x y : Full} → Names Takes x y → Same x y
  names_sig (no_names x) = λ over. refl
  names_sig (last_name n c e) = λ over. word_sig refl n over ∙ counting_sig c over ∙ word_sig refl e over
  names_sig (next_name n c e more) = λ over. word_sig refl n over ∙ counting_sig c over ∙ word_sig refl e over ∙ names_sig more over

  pub uses_sig : {x y : Full} → Uses Takes x y → Same x y
  uses_sig (no_uses x) = λ over. refl
  uses_sig (a_use n s more) = λ over. word_sig refl n over ∙ mute_sig s over ∙ uses_sig more over

  args_sig : {x y : Full} → Args Takes x y → Same x y
  args_sig (no_args s) = mute_sig s
  args_sig (arg s a c t l more) = λ over. mute_sig s over ∙ word_sig refl a over ∙ word_sig refl c over ∙ mute_sig t over ∙ loc_sig l over ∙ args_sig more over

  open_sig : {x y : Full} → Takes places.RegionOpen x y → (over : ℕ) → sig x over ≡ sig y (suc over)
  open_sig m over = ap (λ es. signature_behind (marked es) over) m.move.event_is

  close_sig : {x y : Full} → Takes places.RegionClose x y → (over : ℕ) → sig x (suc over) ≡ sig y over
  close_sig m over = ap (λ es. signature_behind (marked es) (suc over)) m.move.event_is

  type_sig : {x y : Full} → Takes places.SignatureOpen x y → Deep x y
  type_sig m = λ over. ap (λ es. signature_behind (marked es) (suc over)) m.move.event_is

  mutual
    body_sig : {x y : Full} → Body Takes x y → Deep x y
    body_sig (body o uses s regions t colon begins types' arrow results l) = λ over.
        word_sig refl o (suc over) ∙ uses_sig uses (suc over) ∙ mute_sig s (suc over) ∙ regions_sig regions (suc over) ∙ mute_sig t (suc over) ∙ word_sig refl colon (suc over) ∙ type_sig begins over
        ∙ mute_sig types' (suc over) ∙ word_sig refl arrow (suc over) ∙ mute_sig results (suc over) ∙ loc_sig l (suc over)

    ops_sig : {x y : Full} → Ops Takes x y → Deep x y
    ops_sig (no_ops x) = λ over. refl
    ops_sig (op names o b more) = λ over. names_sig names (suc over) ∙ word_sig refl o (suc over) ∙ body_sig b over ∙ ops_sig more over

    pub regions_sig : {x y : Full} → Regions Takes x y → Same x y
    regions_sig (no_regions s) = mute_sig s
    regions_sig (region s o ops blocks close more) = λ over. mute_sig s over ∙ open_sig o over ∙ ops_sig ops over ∙ blocks_sig blocks over ∙ close_sig close over ∙ regions_sig more over

    blocks_sig : {x y : Full} → Blocks Takes x y → Deep x y
    blocks_sig (no_blocks x) = λ over. refl
    blocks_sig (block l args colon ops more) = λ over. word_sig refl l (suc over) ∙ args_sig args (suc over) ∙ word_sig refl colon (suc over) ∙ ops_sig ops over ∙ blocks_sig more over

  function_at : (x d e : Full) → Same x d → Takes places.SignatureOpen d e → IsFunction (begins sp aliases (sig x 0))
  function_at x d e same m = subst (λ (es : List Event). IsFunction (begins sp aliases es)) (sym (same 0 ∙ ap (λ es. signature_behind (marked es) 0) m.move.event_is)) m.begun_here

  -- behind an operation's name its function type begins, which is whole
  body_function : {x y : Full} → Body Takes x y → IsFunction (begins sp aliases (sig x 0))
  body_function {x} (body o uses s regions t colon begin types' arrow results l) =
      function_at x _ _ (λ over. word_sig refl o over ∙ uses_sig uses over ∙ mute_sig s over ∙ regions_sig regions over ∙ mute_sig t over ∙ word_sig refl colon over) begin

pub function_behind : FunctionBehind
function_behind sp index aliases words class all numbers types x y b = body_function sp index aliases words class all numbers types b
