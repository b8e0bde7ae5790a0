use Rattle.std.proofs.Common.{◌≡◌, drop}
use Rattle.sdc_base.specs.Files.{bytes_of}
use Rattle.sdc_base.proofs.files.bytes_under.Given as goal

abbrev pub invariant-loop-file : goal.invariant-loop-file
invariant-loop-file l = bytes_of (drop l.file-index l.file-items) l.name ≡ bytes_of l.file-items l.name
