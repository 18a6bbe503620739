use Rattle.ringcheck.proofs.Common.{◌++◌, ◌∷◌, ◌∙◌, [], List, ℕ, ap, cases_lt, false≢true, inl, inr, length, lt-ltb, map, refl, sym, slice_get_read, take, Entry}
use Rattle.std.proofs.lemmas.List.{map-append}
use Rattle.std.proofs.Common.{◌≤◌}
use Rattle.std.specs.List.{zip}
use Rattle.print_json.specs.Certificates.{digest_of}
use Rattle.print_json.specs.declared.certificate.FileDigest.{FileDigest}
use Rattle.ringcheck.proofs.CertifiedFiles.{zip_next, zip_no_more}
use Rattle.ringcheck.proofs.certificates.digests_of.Goals as goal
use Rattle.ringcheck.proofs.certificates.digests_of.Goals.{in-Some+in_ok-push, in_default}

pub loop-index-preserved : goal.loop-index-preserved
loop-index-preserved c =
    let k = c.loop-index.index in
    let entries = c.args.entries.now in
    let digests = c.args.digests.now in
    let entry = c.index-entries-index.result in
    let at = slice_get_read entries _ k entry refl c.loop-index-test.true c.index-entries-index.is in
    let so_far : List (List ℕ × List ℕ) = zip (map (λ (x : Entry). x.file) (take k entries)) digests in
    elim c.match-get.branch [
      | in-Some+in_ok-push w ↦
          let lookup = w.in-Some.ensures.lookup in
          let digest = w.in-Some.sha256.now in
          record {
            so_far = rw (w.subjects-is, w.in_ok-push.ensures.items)
                (map-append digest_of c.loop-index.subjects.items (let one : FileDigest = record { name = w.as_str-name.result; sha256 = digest } in one ∷ [])
                ∙ (ap (λ (all : List (List ℕ × List ℕ)). all ++ (w.as_str-name.result.now, digest) ∷ []) c.loop-index.invariant.so_far
                ∙ (ap (λ (name : List ℕ). so_far ++ (name, digest) ∷ []) w.as_str-name.ensures
                ∙ sym (zip_next entries digests k entry digest at (slice_get_read digests _ k digest refl lookup.3.0 lookup.1)))));
          }
      | in_default w ↦
          let past : length digests ≤ k = elim (cases_lt k (length digests)) [ inl lt ↦ absurd (false≢true (w.in_default.ensures.lookup.0 ∙ lt-ltb k (length digests) lt)) | inr le ↦ le ] in
          record { so_far = rw w.subjects-is (c.loop-index.invariant.so_far ∙ sym (zip_no_more entries digests k past)) }
    ]
