use Rattle.ringcheck.proofs.Common.{◌∷◌, [], ℕ, true, List, Option, Some, None, codes, inl, refl, IfSome, Appends, IfSome_then, Reason, IsSilent, Written}
use Rattle.std.specs.Fmt.{◌++?◌}
use Rattle.ringcheck_files.specs.Words.{PrintsUsage, sentence_line, usage_line}
use Rattle.ringcheck_files.proofs.Appending.{appends_both}
use Rattle.ringcheck.proofs.sentences.refuse.Goals as goal

-- the line of what is said, below the line of words that are refused
said_below : (said : Option (List ℕ)) (why : Reason) (before after : Written) (middle : Option (List ℕ)) → Appends before.0 middle (usage_line why) → IfSome (Some (codes "  ") ++? said ++? Some (10 ∷ [])) (Appends middle after.0)
    → IsSilent before after → IfSome said (λ sentence. PrintsUsage true why sentence before after)
said_below None why before after middle line said silent = tt
said_below (Some sentence) why before after middle line said silent = (appends_both before.0 middle after.0 (usage_line why) (sentence_line sentence) line said, silent)

-- what is true of the line of what is said
of_line : (said : Option (List ℕ)) (P : List ℕ → Type 0) → IfSome (Some (codes "  ") ++? said ++? Some (10 ∷ [])) P → IfSome said (λ sentence. P (sentence_line sentence))
of_line None P h = tt
of_line (Some sentence) P h = h

pub returns-in_ok-write-clause-says : goal.returns-in_ok-write-clause-says
returns-in_ok-write-clause-says g c =
    let said = g.S.Display.output c.args.said.now in
    rw c.if-below.true (IfSome_then said (said_below said c.args.reason _ _ _ c.in_ok-refuse_word.ensures c.in_ok-write.ensures.bytes refl) (λ sentence h. inl (refl, h)))

pub returns-in_ok-write-2-clause-says : goal.returns-in_ok-write-2-clause-says
returns-in_ok-write-2-clause-says g c =
    rw c.if-below.false (IfSome_then (g.S.Display.output c.args.said.now) (of_line (g.S.Display.output c.args.said.now) _ c.in_ok-write-2.ensures.bytes) (λ sentence h. inl (refl, (c.in_ok-refuse_word.ensures, h))))
