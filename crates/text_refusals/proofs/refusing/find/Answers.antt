use Rattle.std.proofs.Common.{rules}
use Rattle.text_refusals.specs.Found.{seen_of}
use Rattle.text_refusals.proofs.SeenLemmas.{finds, is_seen}
use Rattle.text_refusals.proofs.refusing.find.Goals as goal

pub returns : goal.returns
returns c =
    let look = c.in_ok-look.ensures in
    let words = c.deref-2.ensures.value in
    let names = c.deref-3.ensures.value in
    finds c.args.text.now c.args.allowed (seen_of c.in_ok-cut.cut c.in_ok-look.look) c.findings_of.result
    (is_seen c.args.text.now (seen_of c.in_ok-cut.cut c.in_ok-look.look) c.in_ok-names.names.items (search rules) c.in_ok-cut.ensures (rw words at look.form)
    (rw (words, names) at look.refusal) (rw (words, names) at look.found) (rw (words, names) at look.refused) (rw (words, names) at look.begun))
    c.findings_of.ensures
