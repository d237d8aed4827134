use Rattle.std.proofs.Common.{rules, ◌+◌, drop, take, refl}
use Rattle.std.proofs.lemmas.List.{drop_more, take_more}
use Rattle.text_events.proofs.NameLemmas.{named_more, named_one, front_len, nothing}
use Rattle.text_events.proofs.naming.names_by.Goals as goal

pub each-preserved : goal.each-preserved
each-preserved c =
    let text = c.args.text.now in
    let words = c.args.words.now in
    let i = c.each.index in
    let left = drop (i + 1) words in
    let more = drop_more words i nothing c.each-test.true in
    let front = front_len words i c.each-test.true in record {
      named = named_more text words c.each.found.items c.push.new.self.items _ i nothing c.in_ok-number.number c.each-test.true
          (named_one text words i nothing c.in_ok-number.number c.each-test.true
          (c.in_ok-number.ensures.number text (take i words) left _ front refl (c.spelled-behind.ensures.spelled left (rw more at c.each.invariant.decoded)) c.each.invariant.stands))
          (search rules) c.each.invariant.named;
      decoded = c.spelled-behind.ensures.next left (rw more at c.each.invariant.decoded);
      stands = rw (take_more words i nothing c.each-test.true)
          (c.in_ok-number.ensures.seen text (take i words) _ front refl (c.spelled-behind.ensures.spelled left (rw more at c.each.invariant.decoded)) c.each.invariant.stands);
    }
