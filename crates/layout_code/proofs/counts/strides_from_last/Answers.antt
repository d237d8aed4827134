use Rattle.std.proofs.Common.{◌≡◌, ◌+◌, ◌-◌, ◌*◌, ◌%◌, ◌^◌, Some, sym, ap, ◌∙◌, arith}
use Rattle.std.specs.List.{slice_get}
use Rattle.std.proofs.lemmas.Option.{slice_get_read}
use Rattle.std.proofs.Common.{length, refl, ◌<◌}
use Rattle.layout_code.proofs.SizeLaws.{stride_put, next_stride}
use Rattle.layout_code.proofs.counts.strides_from_last.Goals as goal

pub loop-i-preserved : goal.loop-i-preserved
loop-i-preserved c =
    let more : c.loop-i.i ≡ c.loop-i.i - 1 + 1 = omega (arith, c.loop-i-test.true) in
    let inside : c.loop-i.i - 1 < length c.args.sizes.now = omega (arith, c.loop-i-test.true, c.loop-i.invariant.within) in
    let at : slice_get c.args.sizes.now (c.loop-i.i - 1) ≡ Some c.index-sizes-i.result =
    slice_get_read c.args.sizes.now (length c.args.sizes.now) (c.loop-i.i - 1) c.index-sizes-i.result refl inside c.index-sizes-i.is in
    record {
      within = omega (arith, c.loop-i.invariant.within);
      strides = stride_put c.args.bits.bits c.args.sizes.now (c.loop-i.i - 1) c.loop-i.i c.loop-i.all.items c.push.new.self.items c.index-sizes-i.result c.loop-i.stride more at
          c.in_ok-push.ensures.items c.loop-i.invariant.strides c.loop-i.invariant.next;
      next = next_stride c.args.bits.bits c.args.sizes.now (c.loop-i.i - 1) c.loop-i.i c.index-sizes-i.result c.loop-i.stride c.product-stride.result more at c.loop-i.invariant.next
          (c.product-stride.ensures ∙ ap (λ s. s.number * c.loop-i.stride % 2 ^ c.args.bits.bits) (sym c.index-sizes-i.is));
    }
