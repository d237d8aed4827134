-- The laws of numbers that are read.
use Rattle.std.proofs.Common.{◌≡◌, ap, ◌∙◌}
use Rattle.std.specs.List.{list_all}
use Rattle.tree_model.specs.declared.op_tree.ModuleTree.{ModuleTree}
use Rattle.plain_tree.specs.Ops.{plain_module}
use Rattle.text_refusals.specs.Refusing.{refusal_of}
use Rattle.text_refusals.proofs.SeenLemmas.{seen_once}
use Rattle.read_states.specs.Numbering.{is_numbered, none_counted}
use Rattle.read_numbers.specs.Laws.{ReadInOrder, ReadOnce}
use Rattle.read_numbers.proofs.Once.{all_once}
use Rattle.read_numbers.proofs.Texts.{seen_numbered}

pub read_in_order : ReadInOrder
read_in_order text allowed A reads =
    let (s, seen, none) = reads.unrefused in
    let (t, found, e) = reads.denotes in
    let same : s ≡ t = seen_once text s t seen found in
    ap (λ (m : ModuleTree). list_all (is_numbered none_counted) (plain_module m).funcs) e
    ∙ seen_numbered text allowed t found (none ∙ ap (refusal_of text allowed) same)

pub read_once : ReadOnce
read_once text allowed A reads = all_once (plain_module A).funcs (read_in_order text allowed A reads)
