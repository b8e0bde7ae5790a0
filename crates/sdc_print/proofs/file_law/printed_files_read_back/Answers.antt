use Rattle.sdc_print.proofs.FileReads.{reads_back}
use Rattle.sdc_print.proofs.file_law.printed_files_read_back.Goals as goal

pub returns : goal.returns
returns c = reads_back
