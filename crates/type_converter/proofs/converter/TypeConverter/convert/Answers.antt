use Rattle.std.proofs.Common.{sym}
use Rattle.type_converter.proofs.PairLaws.{pair_converts, pairs_kept, pairs_more}
use Rattle.type_converter.proofs.converter.TypeConverter.convert.Goals as goal

pub returns-in-Some-clause-converted : goal.returns-in-Some-clause-converted
returns-in-Some-clause-converted g c = λ t held.
    pair_converts (g.I.Interner.holds c.args.i.now) c.args.self.now.bits c.args.ty c.in-Some.handle t (g.met.I.Interner.one_key c.args.i.now)
    (c.requires.pairs c.args.ty c.in-Some.handle (sym c.in-Some.ensures)) held

pub returns-in_err-handle-clause-pairs : goal.returns-in_err-handle-clause-pairs
returns-in_err-handle-clause-pairs g c =
    pairs_kept (g.I.Interner.holds c.args.i.now) (g.I.Interner.holds c.find.new.i) c.in_err-handle.ensures.kept c.args.self.now.bits c.args.self.now.pairs c.requires.pairs

pub returns-in-None-clause-pairs : goal.returns-in-None-clause-pairs
returns-in-None-clause-pairs g c =
    pairs_kept (g.I.Interner.holds c.args.i.now) (g.I.Interner.holds c.find.new.i) c.in_ok-handle.ensures.kept c.args.self.now.bits c.args.self.now.pairs c.requires.pairs

pub returns-in-Some-2-clause-pairs : goal.returns-in-Some-2-clause-pairs
returns-in-Some-2-clause-pairs g c =
    pairs_more (g.I.Interner.holds c.args.i.now) (g.I.Interner.holds c.find.new.i) c.in_ok-handle.ensures.kept c.args.self.now.bits c.keep.new.self.bits c.args.self.now.pairs c.keep.new.self.pairs
    c.args.ty c.in-Some-2.handle c.requires.known.key c.in_ok-handle.field-0 c.requires.pairs c.keep.ensures.keeps c.keep.ensures.bits c.requires.known.held
    (c.in_ok-handle.ensures.found c.requires.known.key c.requires.known.held) c.in-Some-2.is
