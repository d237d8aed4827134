-- The form of a text under a map of states.
use Rattle.text_grammar.specs.declared.places.Place.{Place}
use Rattle.text_forms.specs.Forms.{IsArgs, IsBlocks, IsBody, IsFile, IsLoc, IsNames, IsOps, IsRegions, Still, arg, block, body, file_alias, file_op, loc, name, no_args, no_blocks, no_file, no_loc, no_names, no_ops, no_regions, op, region, still_end, still_more}

module _ {X : Type 0} {Y : Type 0} (T : Place → X → X → Type 0) (U : Place → Y → Y → Type 0) (f : X → Y) (step : (p : Place) (x y : X) → T p x y → U p (f x) (f y)) where
  pub still_mapped : {x y : X} → Still T x y → Still U (f x) (f y)
  still_mapped (still_end x) = still_end (f x)
  still_mapped (still_more p s m more) = still_more p s (step p _ _ m) (still_mapped more)

  pub loc_mapped : {x y : X} → IsLoc T x y → IsLoc U (f x) (f y)
  loc_mapped (no_loc x) = no_loc (f x)
  loc_mapped (loc b s e) = loc (step _ _ _ b) (still_mapped s) (step _ _ _ e)

  pub names_mapped : {x y : X} → IsNames T x y → IsNames U (f x) (f y)
  names_mapped (no_names x) = no_names (f x)
  names_mapped (name n s more) = name (step _ _ _ n) (still_mapped s) (names_mapped more)

  pub args_mapped : {x y : X} → IsArgs T x y → IsArgs U (f x) (f y)
  args_mapped (no_args s) = no_args (still_mapped s)
  args_mapped (arg s a t l more) = arg (still_mapped s) (step _ _ _ a) (still_mapped t) (loc_mapped l) (args_mapped more)

  mutual
    pub body_mapped : {x y : X} → IsBody T x y → IsBody U (f x) (f y)
    body_mapped (body s regions t colon begins types arrow results l) =
        body (still_mapped s) (regions_mapped regions) (still_mapped t) (step _ _ _ colon) (step _ _ _ begins) (still_mapped types) (step _ _ _ arrow) (still_mapped results) (loc_mapped l)

    pub ops_mapped : {x y : X} → IsOps T x y → IsOps U (f x) (f y)
    ops_mapped (no_ops x) = no_ops (f x)
    ops_mapped (op names o b more) = op (names_mapped names) (step _ _ _ o) (body_mapped b) (ops_mapped more)

    pub regions_mapped : {x y : X} → IsRegions T x y → IsRegions U (f x) (f y)
    regions_mapped (no_regions s) = no_regions (still_mapped s)
    regions_mapped (region s o ops blocks close more) = region (still_mapped s) (step _ _ _ o) (ops_mapped ops) (blocks_mapped blocks) (step _ _ _ close) (regions_mapped more)

    pub blocks_mapped : {x y : X} → IsBlocks T x y → IsBlocks U (f x) (f y)
    blocks_mapped (no_blocks x) = no_blocks (f x)
    blocks_mapped (block l args colon ops more) = block (step _ _ _ l) (args_mapped args) (step _ _ _ colon) (ops_mapped ops) (blocks_mapped more)

  pub file_mapped : {x y : X} → IsFile T x y → IsFile U (f x) (f y)
  file_mapped (no_file x) = no_file (f x)
  file_mapped (file_op names o b more) = file_op (names_mapped names) (step _ _ _ o) (body_mapped b) (file_mapped more)
  file_mapped (file_alias p h m s l more) = file_alias p h (step _ _ _ m) (still_mapped s) (loc_mapped l) (file_mapped more)
