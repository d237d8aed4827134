use Rattle.std.proofs.Common.{rules, ◌++◌, length}
use Rattle.std.proofs.lemmas.Slice.Zip.{zip_end}
use Rattle.run_code.specs.Views.{bits_of}
use Rattle.run_lines.specs.Lines.{numbers_text}
use Rattle.run_lines.proofs.NumberLaws.{numbers_end}
use Rattle.run_lines.proofs.numbers.put_numbers.Goals as goal

pub returns : goal.returns
returns c =
    numbers_end c.loop-width.out (c.args.out.now ++ numbers_text c.args.lead.now (bits_of c.args.widths.now) c.args.numbers.now) c.loop-width.lead.now c.args.widths.now c.args.numbers.now (length c.loop-width.yielded)
    (zip_end c.args.widths.now c.args.numbers.now c.loop-width.yielded c.into_iter-width-iterator.result c.loop-width.width-iterator c.next.new.self c.next.result (search rules) (search rules) c.loop-width.yielded_by c.in-None.is c.next.ensures.steps)
    c.loop-width.invariant
