-- Packages whose files say the same have the same answer.
use Rattle.package_check.proofs.Common.{◌≡◌, ◌<◌, ℕ, zero, suc, List, [], ◌∷◌, Result, Ok, Err, length, take, get_or, arith, refl, ap, GridRules, Fault, Content, ReportView, FileView, Reads, HaveContents, IsAnswer, AllReadAlike, SameAnswers}
use Rattle.package_check.proofs.ContentIsReading.{content_read, reading_of}

alike_is_symmetric : (xs ys : List FileView) → AllReadAlike xs ys → AllReadAlike ys xs
alike_is_symmetric [] [] h = tt
alike_is_symmetric (x ∷ xs) (y ∷ ys) h = ((λ answer. ((h.0 answer).1, (h.0 answer).0)), alike_is_symmetric xs ys h.1)
alike_is_symmetric xs ys h = absurd h

same_length : (xs ys : List FileView) → AllReadAlike xs ys → length xs ≡ length ys
same_length [] [] h = refl
same_length (x ∷ xs) (y ∷ ys) h = ap suc (same_length xs ys h.1)
same_length xs ys h = absurd h

same_before : (i : ℕ) (xs ys : List FileView) → AllReadAlike xs ys → AllReadAlike (take i xs) (take i ys)
same_before zero xs ys h = tt
same_before (suc i) [] [] h = tt
same_before (suc i) (x ∷ xs) (y ∷ ys) h = (h.0, same_before i xs ys h.1)
same_before (suc i) xs ys h = absurd h

same_at : (i : ℕ) (xs ys : List FileView) (d : FileView) (answer : Result Content Fault) → AllReadAlike xs ys → i < length xs → Reads (get_or xs i d) answer → Reads (get_or ys i d) answer
same_at i [] ys d answer h lt r = absurd (omega arith)
same_at i (x ∷ xs) [] d answer h lt r = absurd h
same_at zero (x ∷ xs) (y ∷ ys) d answer h lt r = (h.0 answer).0 r
same_at (suc i) (x ∷ xs) (y ∷ ys) d answer h lt r = same_at i xs ys d answer h.1 (omega arith) r

same_contents : (xs ys : List FileView) (contents : List Content) → AllReadAlike xs ys → HaveContents xs contents → HaveContents ys contents
same_contents [] [] contents h r = r
same_contents (x ∷ xs) (y ∷ ys) [] h r = absurd r
same_contents (x ∷ xs) (y ∷ ys) (c ∷ cs) h r = (content_read y c ((h.0 (Ok c)).0 (reading_of x c r.0)), same_contents xs ys cs h.1 r.1)
same_contents xs ys contents h r = absurd h

answer_carries_over : (xs ys : List FileView) (rules : GridRules) (answer : Result ReportView (ℕ × Fault)) → AllReadAlike xs ys → IsAnswer xs rules answer → IsAnswer ys rules answer
answer_carries_over xs ys rules (Ok report) h r = record { contents = r.contents; read = same_contents xs ys r.contents h r.read; is = r.is }
answer_carries_over xs ys rules (Err refusal) h r = record {
  contents = r.contents;
  read = same_contents (take refusal.0 xs) (take refusal.0 ys) r.contents (same_before refusal.0 xs ys h) r.read;
  inside = let lt = r.inside in omega (arith, lt, same_length xs ys h);
  refused = λ d. same_at refusal.0 xs ys d (Err refusal.1) h r.inside (r.refused d);
}

pub same_answers : SameAnswers
same_answers xs ys rules answer h = (answer_carries_over xs ys rules answer h, answer_carries_over ys xs rules answer (alike_is_symmetric xs ys h))
