use Rattle.std.proofs.Common.{◌≡◌, ◌∙◌, ◌∷◌, [], map, subst}
use Rattle.plain_tree.specs.Types.{Struct, plain_type, types_in}
use Rattle.conversion_model.specs.declared.templates.Source.{Source}
use Rattle.pattern_model.specs.Drafts.{Draft}
use Rattle.pattern_model.specs.FuncRows.{packed_in, returned}
use Rattle.pattern_model.specs.MemrefRows.{undef}
use Rattle.row_drafts.specs.Writes.{behind}
use Rattle.func_rows.proofs.returns.struct_returned.Goals as goal

pub returns : goal.returns
returns c =
    let h = subst (λ u. (next : Source → Draft) → behind c.args.writer.now (undef u next) ≡ behind c.undef.new.self (next c.in_ok-nothing.nothing)) c.in_ok-t.ensures c.in_ok-nothing.ensures in
    let k = subst (λ u. (next : Source → Draft) → behind c.undef.new.self (packed_in u 0 (map plain_type c.args.types.now) c.in_ok-nothing.nothing next) ≡ behind c.pack.new.writer (next c.in_ok-made.made)) c.in_ok-t.ensures c.in_ok-made.ensures in
    h (λ u. packed_in (Struct (types_in (map plain_type c.args.types.now))) 0 (map plain_type c.args.types.now) u λ m. returned (m ∷ [])) ∙ k (λ m. returned (m ∷ [])) ∙ c.in_ok-returned.ensures
