-- What is known of a region, by the parts that are found.
use Rattle.std.proofs.Common.{◌≡◌, ℕ, List, length, map, Option, refl, sym, ap, ◌∙◌, arith}
use Rattle.std.specs.Global.{Vec}
use Rattle.tree_model.specs.declared.op_tree.BlockTree.{BlockTree}
use Rattle.plain_tree.specs.Ops.{Blocks, blocks_in}
use Rattle.value_types.specs.Trees.{plain_block}
use Rattle.block_search.specs.Reach.{rows}
use Rattle.block_search.proofs.Going.{rows_count}
use Rattle.use_paths.specs.declared.homes.Home.{Home}
use Rattle.use_paths.specs.Blocks.{block_count, ends_in, graph, graph_by, home_in, labels_from}
use Rattle.use_paths.specs.Levels.{Known, known_of}
use Rattle.first_places.specs.Tables.{nothing_yet, place_by, with_firsts}
use Rattle.use_paths.proofs.Layers.{blocks_counted}
use Rattle.use_paths.proofs.Places.{graph_length}

abbrev parts : (ℕ → ℕ) → (ℕ → Option Home) → List ℕ → List (List ℕ) → Known
parts places homes ends edges = record { places = places; homes = homes; ends = ends; edges = edges }

abbrev places_by : (ℕ → Option ℕ) → ℕ → ℕ → ℕ
places_by p size = λ l. place_by p size l

known_parts : (bs : Blocks) → parts (places_by (with_firsts nothing_yet (labels_from 0 bs)) (block_count bs)) (home_in bs) (ends_in bs) (graph bs) ≡ known_of bs
unfolding known_of
known_parts bs = refl

known_by : (bs : Blocks) (p : ℕ → Option ℕ) (size : ℕ) (h : ℕ → Option Home) (e : List ℕ) (g : List (List ℕ)) → p ≡ with_firsts nothing_yet (labels_from 0 bs) → size ≡ block_count bs
    → h ≡ home_in bs → e ≡ ends_in bs → g ≡ graph_by (places_by p size) bs → parts (places_by p size) h e g ≡ known_of bs
known_by bs p size h e g ep es eh ee eg =
    let place : places_by p size ≡ places_by (with_firsts nothing_yet (labels_from 0 bs)) (block_count bs) =
    ap (λ (f : ℕ → Option ℕ). places_by f size) ep ∙ ap (λ n. places_by (with_firsts nothing_yet (labels_from 0 bs)) n) es in
    ap (λ (x : List (List ℕ)). parts (places_by p size) h e x) eg
    ∙ ap (λ (x : ℕ → ℕ). parts x h e (graph_by x bs)) place
    ∙ ap (λ (x : ℕ → Option Home). parts (places_by (with_firsts nothing_yet (labels_from 0 bs)) (block_count bs)) x e (graph bs)) eh
    ∙ ap (λ (x : List ℕ). parts (places_by (with_firsts nothing_yet (labels_from 0 bs)) (block_count bs)) (home_in bs) x (graph bs)) ee
    ∙ known_parts bs

pub region_known : (bs : List BlockTree) (p : ℕ → Option ℕ) (h : ℕ → Option Home) (e : List ℕ) (es now : List (Vec ℕ)) → now ≡ es
    → p ≡ with_firsts nothing_yet (labels_from 0 (blocks_in (map plain_block bs))) → h ≡ home_in (blocks_in (map plain_block bs)) → e ≡ ends_in (blocks_in (map plain_block bs))
    → rows es ≡ graph_by (places_by p (length bs)) (blocks_in (map plain_block bs))
    → parts (places_by p (length now)) h e (rows now) ≡ known_of (blocks_in (map plain_block bs))
region_known bs p h e es now same ep eh ee eg =
    let whole : Blocks = blocks_in (map plain_block bs) in
    let count : length es ≡ length bs =
    let a = rows_count es in
    let b = ap (λ (x : List (List ℕ)). length x) eg in
    let c = graph_length (places_by p (length bs)) whole in
    let d = blocks_counted bs in omega (arith, a, b, c, d) in
    ap (λ (x : List (Vec ℕ)). parts (places_by p (length x)) h e (rows x)) same
    ∙ known_by whole p (length es) h e (rows es) ep (count ∙ sym (blocks_counted bs)) eh ee (eg ∙ ap (λ n. graph_by (places_by p n) whole) (sym count))
