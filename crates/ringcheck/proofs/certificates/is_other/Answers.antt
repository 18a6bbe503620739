use Rattle.ringcheck.proofs.Common.{◌∙◌, ap, arith, false≢true, length, lt-ltb, not, slice_get_within, map, option_map, refl, slice_get_read, same_Some, sym}
use Rattle.std.proofs.lemmas.List.{length-map}
use Rattle.std.proofs.lemmas.Option.{slice_get-map}
use Rattle.std.proofs.lemmas.Slice.Eq.{bytes_eq-Decides}
use Rattle.std.specs.Prelude.{string_bytes}
use Rattle.ringcheck.proofs.certificates.is_other.Goals as goal
use Rattle.ringcheck.proofs.certificates.is_other.Goals.{in-Some, in-None}

pub returns : goal.returns
returns c = λ other is.
    elim c.match-get.branch [
      | in-Some w ↦
          let lookup = w.in-Some.ensures.lookup in
          let at = slice_get_read c.args.written.now _ c.args.index w.in-Some.written.now refl lookup.3.0 lookup.1 in
          let same = same_Some (string_bytes w.in-Some.written.now) _ (sym (slice_get-map string_bytes c.args.written.now c.args.index ∙ ap (option_map string_bytes) at) ∙ is) in
          let bytes = w.as_bytes.ensures.value ∙ (same ∙ sym (w.as_bytes-in-Some.ensures.value ∙ c.in_ok-found.ensures)) in
          false≢true (sym (ap not ((bytes_eq-Decides _ _).1 bytes)) ∙ (sym w.ne.ensures ∙ (sym w.result-is ∙ other)))
      | in-None w ↦
          let inside = slice_get_within (map string_bytes c.args.written.now) c.args.index _ is in
          false≢true (w.in-None.ensures.lookup.0 ∙ lt-ltb c.args.index (length c.args.written.now) (omega (arith, inside, length-map c.args.written.now string_bytes)))
    ]
