-- What operations, regions and blocks leave of the levels behind them, whatever their numbers are.
use Rattle.std.proofs.Common.{◌≡◌, ℕ, List, [], ◌∷◌, refl, ap, ◌∙◌}
use Rattle.text_grammar.specs.declared.places.Place.{Place}
use Rattle.text_grammar.specs.declared.places.Place.TheVariants as places
use Rattle.text_scopes.specs.declared.bodies.Class.{Class}
use Rattle.term_table.specs.Terms.{Term}
use Rattle.event_trees.specs.Wording.{Wording}
use Rattle.event_trees.specs.Numbers.{results_in}
use Rattle.text_forms.specs.Forms.{IsArgs, IsBlocks, IsBody, IsOps, IsRegions, arg, block, body, no_args, no_blocks, no_ops, no_regions, op, region}
use Rattle.read_states.specs.States.{State, waits}
use Rattle.read_states.proofs.Moves.{waits_moved}
use Rattle.read_states.specs.Levels.{args_in, below, blocks_in, ops_in, regions_in, signature_in}
use Rattle.read_states.proofs.Words.{Alike, Same, arg_levels, close_levels, kept_levels, kept_waiting, label_levels, levels, op_levels, open_levels, plain_alike, signature_levels}
use Rattle.read_states.proofs.Parts.{T, loc_alike, names_alike, still_alike}

module _ (words : Wording) (class : ℕ → Class) (numbers : List ℕ) where
  abbrev pub k : State → Rattle.event_trees.specs.Levels.Levels
  k x = levels words class numbers x

  abbrev pub Takes : Place → State → State → Type 0
  Takes p x y = T words class numbers p x y

  -- regions of one operation, in front of the others
  pub record Around (x y : State) : Type 0 where
    pub signature_is : signature_in (k x) ≡ signature_in (k y)
    pub args_is : args_in (k x) ≡ args_in (k y)
    pub ops_is : ops_in (k x) ≡ ops_in (k y)
    pub blocks_is : blocks_in (k x) ≡ blocks_in (k y)
    pub below_is : below (k x) ≡ below (k y)
    pub waits_is : waits x ≡ waits y

  -- arguments of a block
  pub record Heading (x y : State) : Type 0 where
    pub regions_is : regions_in (k x) ≡ regions_in (k y)
    pub ops_is : ops_in (k x) ≡ ops_in (k y)
    pub blocks_is : blocks_in (k x) ≡ blocks_in (k y)
    pub below_is : below (k x) ≡ below (k y)
    pub waits_is : waits x ≡ waits y

  -- an operation behind its name
  pub record Typed (x y : State) : Type 0 where
    pub term : Term
    pub signature_is : signature_in (k x) ≡ term
    pub waits_is : waits x ≡ results_in term ∷ waits y
    pub args_is : args_in (k x) ≡ args_in (k y)
    pub ops_is : ops_in (k x) ≡ ops_in (k y)
    pub blocks_is : blocks_in (k x) ≡ blocks_in (k y)
    pub below_is : below (k x) ≡ below (k y)

  -- operations of a block
  pub record Inside (x y : State) : Type 0 where
    pub clean : regions_in (k y) ≡ [] → regions_in (k x) ≡ []
    pub args_is : args_in (k x) ≡ args_in (k y)
    pub blocks_is : blocks_in (k x) ≡ blocks_in (k y)
    pub below_is : below (k x) ≡ below (k y)
    pub waits_is : waits x ≡ waits y

  -- blocks of a region
  pub record Labelled (x y : State) : Type 0 where
    pub clean : regions_in (k y) ≡ [] → regions_in (k x) ≡ []
    pub args_clean : args_in (k y) ≡ [] → args_in (k x) ≡ []
    pub ops_clean : ops_in (k y) ≡ [] → ops_in (k x) ≡ []
    pub below_is : below (k x) ≡ below (k y)
    pub waits_is : waits x ≡ waits y

  around_alike : {x y : State} → Alike words class numbers x y → Around x y
  around_alike a = record { signature_is = a.same.signature; args_is = a.same.args; ops_is = a.same.ops; blocks_is = a.same.blocks; below_is = a.same.below_is; waits_is = a.waits_is }

  around_join : {x y z : State} → Around x y → Around y z → Around x z
  around_join a b = record {
    signature_is = a.signature_is ∙ b.signature_is;
    args_is = a.args_is ∙ b.args_is;
    ops_is = a.ops_is ∙ b.ops_is;
    blocks_is = a.blocks_is ∙ b.blocks_is;
    below_is = a.below_is ∙ b.below_is;
    waits_is = a.waits_is ∙ b.waits_is;
  }

  heading_alike : {x y : State} → Alike words class numbers x y → Heading x y
  heading_alike a = record { regions_is = a.same.regions; ops_is = a.same.ops; blocks_is = a.same.blocks; below_is = a.same.below_is; waits_is = a.waits_is }

  heading_join : {x y z : State} → Heading x y → Heading y z → Heading x z
  heading_join a b = record {
    regions_is = a.regions_is ∙ b.regions_is;
    ops_is = a.ops_is ∙ b.ops_is;
    blocks_is = a.blocks_is ∙ b.blocks_is;
    below_is = a.below_is ∙ b.below_is;
    waits_is = a.waits_is ∙ b.waits_is;
  }

  heading_arg : {x y : State} → Takes places.ArgName x y → Heading x y
  heading_arg m =
      let l = arg_levels words class numbers m in
      record { regions_is = ap regions_in l; ops_is = ap ops_in l; blocks_is = ap blocks_in l; below_is = ap below l; waits_is = waits_moved words class numbers m }

  pub args_heading : {x y : State} → IsArgs Takes x y → Heading x y
  args_heading (no_args s) = heading_alike (still_alike words class numbers s)
  args_heading (arg s a t l more) =
      heading_join (heading_alike (still_alike words class numbers s)) (heading_join (heading_arg a) (heading_join (heading_alike (still_alike words class numbers t)) (heading_join (heading_alike (loc_alike words class numbers l)) (args_heading more))))

  inside_refl : (x : State) → Inside x x
  inside_refl x = record { clean = λ h. h; args_is = refl; blocks_is = refl; below_is = refl; waits_is = refl }

  labelled_refl : (x : State) → Labelled x x
  labelled_refl x = record { clean = λ h. h; args_clean = λ h. h; ops_clean = λ h. h; below_is = refl; waits_is = refl }

  -- behind a region's operations and blocks comes what is behind the region
  pub region_below : {b c d e : State} → Inside b c → Labelled c d → Takes places.RegionClose d e → below (k b) ≡ k e
  region_below i l m = i.below_is ∙ l.below_is ∙ ap below (close_levels words class numbers m)

  region_around : {a b c d e : State} → Takes places.RegionOpen a b → Inside b c → Labelled c d → Takes places.RegionClose d e → Around a e
  region_around {e = e} o i l m =
      let s = open_levels words class numbers e o (region_below i l m) in
      record {
        signature_is = ap signature_in s;
        args_is = ap args_in s;
        ops_is = ap ops_in s;
        blocks_is = ap blocks_in s;
        below_is = ap below s;
        waits_is = waits_moved words class numbers o ∙ i.waits_is ∙ l.waits_is ∙ waits_moved words class numbers m;
      }

  -- from the signature on
  typed_rest : {c d e f g h y : State} → Takes places.SignatureColon c d → Takes places.SignatureOpen d e → Alike words class numbers e f → Takes places.SignatureArrow f g → Alike words class numbers g h → Alike words class numbers h y → Typed c y
  typed_rest colon begins still arrow more location =
      let s = signature_levels words class numbers begins in
      let same = kept_levels words class numbers refl colon in
      let behind = Rattle.read_states.proofs.Words.alike_join words class numbers still (Rattle.read_states.proofs.Words.alike_join words class numbers (plain_alike words class numbers refl arrow) (Rattle.read_states.proofs.Words.alike_join words class numbers more location)) in
      record {
        term = begins.term;
        signature_is = same.signature ∙ ap signature_in s;
        waits_is = kept_waiting words class numbers refl colon ∙ waits_moved words class numbers begins ∙ ap (λ ws. results_in begins.term ∷ ws) behind.waits_is;
        args_is = same.args ∙ ap args_in s ∙ behind.same.args;
        ops_is = same.ops ∙ ap ops_in s ∙ behind.same.ops;
        blocks_is = same.blocks ∙ ap blocks_in s ∙ behind.same.blocks;
        below_is = same.below_is ∙ ap below s ∙ behind.same.below_is;
      }

  typed_join : {x y z : State} → Around x y → Typed y z → Typed x z
  typed_join a t = record {
    term = t.term;
    signature_is = a.signature_is ∙ t.signature_is;
    waits_is = a.waits_is ∙ t.waits_is;
    args_is = a.args_is ∙ t.args_is;
    ops_is = a.ops_is ∙ t.ops_is;
    blocks_is = a.blocks_is ∙ t.blocks_is;
    below_is = a.below_is ∙ t.below_is;
  }

  pub op_inside : {x a b c : State} → Alike words class numbers x a → Takes places.OpName a b → Typed b c → Inside x c
  op_inside n o t =
      let l = op_levels words class numbers o in
      record {
        clean = λ h. n.same.regions ∙ ap regions_in l;
        args_is = n.same.args ∙ ap args_in l ∙ t.args_is;
        blocks_is = n.same.blocks ∙ ap blocks_in l ∙ t.blocks_is;
        below_is = n.same.below_is ∙ ap below l ∙ t.below_is;
        waits_is = n.waits_is ∙ waits_moved words class numbers o ∙ ap (λ ws. Rattle.std.specs.Prelude.drop 1 ws) t.waits_is;
      }

  inside_join : {x y z : State} → Inside x y → Inside y z → Inside x z
  inside_join a b = record {
    clean = λ h. a.clean (b.clean h);
    args_is = a.args_is ∙ b.args_is;
    blocks_is = a.blocks_is ∙ b.blocks_is;
    below_is = a.below_is ∙ b.below_is;
    waits_is = a.waits_is ∙ b.waits_is;
  }

  block_labelled : {x a b c d y : State} → Takes places.BlockLabel x a → Heading a b → Takes places.BlockColon b c → Inside c d → Labelled d y → Labelled x y
  block_labelled m h colon i l =
      let s = label_levels words class numbers m in
      let same = kept_levels words class numbers refl colon in
      record {
        clean = λ e. ap regions_in s ∙ h.regions_is ∙ same.regions ∙ i.clean (l.clean e);
        args_clean = λ e. ap args_in s;
        ops_clean = λ e. ap ops_in s;
        below_is = ap below s ∙ h.below_is ∙ same.below_is ∙ i.below_is ∙ l.below_is;
        waits_is = waits_moved words class numbers m ∙ h.waits_is ∙ kept_waiting words class numbers refl colon ∙ i.waits_is ∙ l.waits_is;
      }

  mutual
    pub body_typed : {x y : State} → IsBody Takes x y → Typed x y
    body_typed (body s regions t colon begins types arrow results l) =
        typed_join (around_alike (still_alike words class numbers s)) (typed_join (regions_around regions) (typed_join (around_alike (still_alike words class numbers t))
        (typed_rest colon begins (still_alike words class numbers types) arrow (still_alike words class numbers results) (loc_alike words class numbers l))))

    pub ops_inside : {x y : State} → IsOps Takes x y → Inside x y
    ops_inside (no_ops x) = inside_refl x
    ops_inside (op n o b more) = inside_join (op_inside (names_alike words class numbers n) o (body_typed b)) (ops_inside more)

    pub regions_around : {x y : State} → IsRegions Takes x y → Around x y
    regions_around (no_regions s) = around_alike (still_alike words class numbers s)
    regions_around (region s o ops blocks c more) =
        around_join (around_alike (still_alike words class numbers s)) (around_join (region_around o (ops_inside ops) (blocks_labelled blocks) c) (regions_around more))

    pub blocks_labelled : {x y : State} → IsBlocks Takes x y → Labelled x y
    blocks_labelled (no_blocks x) = labelled_refl x
    blocks_labelled (block l args colon ops more) = block_labelled l (args_heading args) colon (ops_inside ops) (blocks_labelled more)
