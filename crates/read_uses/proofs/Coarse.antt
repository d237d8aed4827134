-- The finer form is a form, under a map of states.
use Rattle.std.proofs.Common.{◌≡◌, true, refl}
use Rattle.text_grammar.specs.declared.places.Place.{Place}
use Rattle.text_grammar.specs.declared.places.Place.TheVariants as places
use Rattle.text_forms.specs.Forms as forms
use Rattle.text_forms.specs.Forms.{IsArgs, IsBlocks, IsBody, IsFile, IsLoc, IsNames, IsOps, IsRegions, Still, is_still, still_end, still_more}
use Rattle.text_forms.specs.Laws.{Next}
use Rattle.read_uses.specs.Laws.{FinerForm}
use Rattle.read_uses.specs.Fine.{Args, Blocks, Body, Counting, File, Loc, Mute, Names, Ops, Regions, Uses, a_use, arg, block, body, file_alias, file_op, is_mute, last_name, loc, many, mute_end, mute_more, next_name, no_args, no_blocks, no_file, no_loc, no_names, no_ops, no_regions, no_uses, one, op, region}

pub mute_still : (p : Place) → is_mute p ≡ true → is_still p ≡ true
mute_still places.UseName h = refl
mute_still places.ResultColon h = refl
mute_still places.ResultNumber h = refl
mute_still places.OperandsOpen h = refl
mute_still _ h = h

module _ {X : Type 0} {Y : Type 0} (T : Place → X → X → Type 0) (U : Place → Y → Y → Type 0) (f : X → Y) (step : (p : Place) (x y : X) → T p x y → U p (f x) (f y)) where
  join : {x y z : Y} → Still U x y → Still U y z → Still U x z
  join (still_end x) t = t
  join (still_more p h s more) t = still_more p h s (join more t)

  pub mute_coarse : {x y : X} → Mute T x y → Still U (f x) (f y)
  mute_coarse (mute_end x) = still_end (f x)
  mute_coarse (mute_more p s m more) = still_more p (mute_still p s) (step p _ _ m) (mute_coarse more)

  pub loc_coarse : {x y : X} → Loc T x y → IsLoc U (f x) (f y)
  loc_coarse (no_loc x) = forms.no_loc (f x)
  loc_coarse (loc b s e) = forms.loc (step _ _ _ b) (mute_coarse s) (step _ _ _ e)

  pub counting_coarse : {x y : X} → Counting T x y → Still U (f x) (f y)
  counting_coarse (one x) = still_end (f x)
  counting_coarse (many a b) = still_more _ refl (step _ _ _ a) (still_more _ refl (step _ _ _ b) (still_end _))

  pub names_coarse : {x y : X} → Names T x y → IsNames U (f x) (f y)
  names_coarse (no_names x) = forms.no_names (f x)
  names_coarse (last_name n c e) = forms.name (step _ _ _ n) (join (counting_coarse c) (still_more _ refl (step _ _ _ e) (still_end _))) (forms.no_names _)
  names_coarse (next_name n c e more) = forms.name (step _ _ _ n) (join (counting_coarse c) (still_more _ refl (step _ _ _ e) (still_end _))) (names_coarse more)

  pub uses_coarse : {x y : X} → Uses T x y → Still U (f x) (f y)
  uses_coarse (no_uses x) = still_end (f x)
  uses_coarse (a_use n s more) = still_more _ refl (step _ _ _ n) (join (mute_coarse s) (uses_coarse more))

  pub args_coarse : {x y : X} → Args T x y → IsArgs U (f x) (f y)
  args_coarse (no_args s) = forms.no_args (mute_coarse s)
  args_coarse (arg s a c t l more) = forms.arg (mute_coarse s) (step _ _ _ a) (still_more _ refl (step _ _ _ c) (mute_coarse t)) (loc_coarse l) (args_coarse more)

  mutual
    pub body_coarse : {x y : X} → Body T x y → IsBody U (f x) (f y)
    body_coarse (body o uses s regions t colon begins types arrow results l) =
        forms.body (still_more _ refl (step _ _ _ o) (join (uses_coarse uses) (mute_coarse s))) (regions_coarse regions) (mute_coarse t) (step _ _ _ colon) (step _ _ _ begins) (mute_coarse types) (step _ _ _ arrow) (mute_coarse results) (loc_coarse l)

    pub ops_coarse : {x y : X} → Ops T x y → IsOps U (f x) (f y)
    ops_coarse (no_ops x) = forms.no_ops (f x)
    ops_coarse (op names o b more) = forms.op (names_coarse names) (step _ _ _ o) (body_coarse b) (ops_coarse more)

    pub regions_coarse : {x y : X} → Regions T x y → IsRegions U (f x) (f y)
    regions_coarse (no_regions s) = forms.no_regions (mute_coarse s)
    regions_coarse (region s o ops blocks close more) = forms.region (mute_coarse s) (step _ _ _ o) (ops_coarse ops) (blocks_coarse blocks) (step _ _ _ close) (regions_coarse more)

    pub blocks_coarse : {x y : X} → Blocks T x y → IsBlocks U (f x) (f y)
    blocks_coarse (no_blocks x) = forms.no_blocks (f x)
    blocks_coarse (block l args colon ops more) = forms.block (step _ _ _ l) (args_coarse args) (step _ _ _ colon) (ops_coarse ops) (blocks_coarse more)

  pub file_coarse : {x y : X} → File T x y → IsFile U (f x) (f y)
  file_coarse (no_file x) = forms.no_file (f x)
  file_coarse (file_op names o b more) = forms.file_op (names_coarse names) (step _ _ _ o) (body_coarse b) (file_coarse more)
  file_coarse (file_alias p h m s l more) = forms.file_alias p h (step _ _ _ m) (mute_coarse s) (loc_coarse l) (file_coarse more)

pub finer_form : FinerForm
finer_form places behind f = file_coarse Next Next (λ ps. ps) (λ p x y m. m) f
