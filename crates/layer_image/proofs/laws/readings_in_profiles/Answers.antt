-- Reading gives commands just where a text spells them.
use Rattle.layer_image.proofs.Common.{reads_spells, spells_reads}
use Rattle.layer_image.proofs.FaultReasons.{reason_is_of_rule}
use Rattle.layer_image.proofs.Pieces.{shown_longer, shown_read, shown_joined}
use Rattle.layer_image.proofs.ReadingExists.{each_answers}
use Rattle.layer_image.proofs.UniqueReading.{one_layer}
use Rattle.layer_image.proofs.laws.readings_in_profiles.Goals as goal

pub returns : goal.returns
returns c = record {
  unique = one_layer;
  each = each_answers;
  texts = λ profile text commands. (λ t. (spells_reads profile text commands t.spells, t.legal), λ r. record { spells = reads_spells profile text commands r.0; legal = r.1 });
  reads = λ profile text image. (
    λ h. (spells_reads profile text image.commands h.0.spells, h.0.legal, h.1),
    λ r. (record { spells = reads_spells profile text image.commands r.0; legal = r.1 }, r.2),
  );
  reasons = reason_is_of_rule;
  stays = shown_longer;
  read = shown_read;
  joined = shown_joined;
}
