-- What each word keeps, all words keep.
use Rattle.text_grammar.specs.declared.places.Place.{Place}
use Rattle.text_forms.specs.Forms.{IsArgs, IsBlocks, IsBody, IsLoc, IsNames, IsOps, IsRegions, Still, arg, block, body, loc, name, no_args, no_blocks, no_loc, no_names, no_ops, no_regions, op, region, still_end, still_more}

module _ {X : Type 0} (T : Place → X → X → Type 0) (P : X → Type 0) (step : (p : Place) (x y : X) → T p x y → P x → P y) where
  pub still_carried : {x y : X} → Still T x y → P x → P y
  still_carried (still_end x) h = h
  still_carried (still_more p s m more) h = still_carried more (step p _ _ m h)

  pub loc_carried : {x y : X} → IsLoc T x y → P x → P y
  loc_carried (no_loc x) h = h
  loc_carried (loc b s e) h = step _ _ _ e (still_carried s (step _ _ _ b h))

  pub names_carried : {x y : X} → IsNames T x y → P x → P y
  names_carried (no_names x) h = h
  names_carried (name n s more) h = names_carried more (still_carried s (step _ _ _ n h))

  pub args_carried : {x y : X} → IsArgs T x y → P x → P y
  args_carried (no_args s) h = still_carried s h
  args_carried (arg s a t l more) h = args_carried more (loc_carried l (still_carried t (step _ _ _ a (still_carried s h))))

  mutual
    pub body_carried : {x y : X} → IsBody T x y → P x → P y
    body_carried (body s regions t colon begins types arrow results l) h =
        loc_carried l (still_carried results (step _ _ _ arrow (still_carried types (step _ _ _ begins (step _ _ _ colon (still_carried t (regions_carried regions (still_carried s h))))))))

    pub ops_carried : {x y : X} → IsOps T x y → P x → P y
    ops_carried (no_ops x) h = h
    ops_carried (op names o b more) h = ops_carried more (body_carried b (step _ _ _ o (names_carried names h)))

    pub regions_carried : {x y : X} → IsRegions T x y → P x → P y
    regions_carried (no_regions s) h = still_carried s h
    regions_carried (region s o ops blocks close more) h = regions_carried more (step _ _ _ close (blocks_carried blocks (ops_carried ops (step _ _ _ o (still_carried s h)))))

    pub blocks_carried : {x y : X} → IsBlocks T x y → P x → P y
    blocks_carried (no_blocks x) h = h
    blocks_carried (block l args colon ops more) h = blocks_carried more (ops_carried ops (step _ _ _ colon (args_carried args (step _ _ _ l h))))
