-- Proofs of the laws that the traits ask of wide pads: each is that of the pad inside it.
use Rattle.pad_shapes.specs.Shapes.{ContainsCovered, ContainsCoveredSlots, CoveredIsBetween, HasExtent}
use Rattle.pad_shapes.specs.Inner.ShapeLaws.{pad_contains_covered, pad_contains_slots, pad_between, pad_extent}
use Rattle.pad_shapes.specs.Inner.RoundedLaws.{rounded_contains_covered, rounded_contains_slots, rounded_between, rounded_extent}
use Rattle.pad_shapes.specs.declared.wide_pad.WidePad.TheVariants.{Plain, Rounded}
use Rattle.pad_shapes.specs.Holding.{HoldsCoveredHoles}
use Rattle.pad_shapes.specs.WidePads.{IsInWidePad, wide_pad_covers, wide_pad_left, wide_pad_right}
use Rattle.pad_shapes.specs.Inner.HoldingLaws.{pad_holds, rounded_holds}

pub wide_pad_contains_covered : ContainsCovered IsInWidePad wide_pad_covers
wide_pad_contains_covered (Plain pad) = pad_contains_covered pad
wide_pad_contains_covered (Rounded rounded) = rounded_contains_covered rounded

pub wide_pad_contains_slots : ContainsCoveredSlots IsInWidePad wide_pad_covers
wide_pad_contains_slots (Plain pad) = pad_contains_slots pad
wide_pad_contains_slots (Rounded rounded) = rounded_contains_slots rounded

pub wide_pad_between : CoveredIsBetween wide_pad_covers wide_pad_left wide_pad_right
wide_pad_between (Plain pad) = pad_between pad
wide_pad_between (Rounded rounded) = rounded_between rounded

pub wide_pad_extent : HasExtent IsInWidePad wide_pad_left wide_pad_right
wide_pad_extent (Plain pad) = pad_extent pad
wide_pad_extent (Rounded rounded) = rounded_extent rounded

pub wide_pad_holds : HoldsCoveredHoles IsInWidePad wide_pad_covers
wide_pad_holds (Plain pad) = pad_holds pad
wide_pad_holds (Rounded rounded) = rounded_holds rounded
