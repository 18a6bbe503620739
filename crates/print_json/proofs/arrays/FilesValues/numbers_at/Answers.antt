use Rattle.print_json.proofs.Common.{arith}
use Rattle.print_json.proofs.Lists.{length_files}
use Rattle.print_json.proofs.arrays.FilesValues.numbers_at.Goals as goal

pub overflow_cast-place : goal.overflow_cast-place
overflow_cast-place c = omega (arith, length_files)

pub file_at-requires : goal.file_at-requires
file_at-requires c = omega (arith, length_files)
