use Rattle.std.proofs.Common.{◌≡◌, ◌<◌, length, refl, ap, ◌∙◌, arith}
use Rattle.std.specs.List.{prefix_len}
use Rattle.lib_cells.specs.Scan.{is_no_quote}
use Rattle.lib_cells.proofs.LexFacts.{quoted_ends, quoted_found}
use Rattle.lib_cells.proofs.ScanFacts.{prefix_within}
use Rattle.lib_cells.proofs.scanning.lexing.quoted.Goals as goal

pub returns-then-len-rest : goal.returns-then-len-rest
returns-then-len-rest c =
    quoted_ends c.args.gap.now c.args.line c.args.rest.text.now c.args.rest.lines.now _ c.quote_len-len.result
    (c.quote_len-len.ensures ∙ ap (prefix_len is_no_quote) c.as_bytes.ensures.value) c.if-len-rest.true refl refl refl refl

pub returns : goal.returns
returns c =
    let len_is : c.quote_len-len.result ≡ prefix_len is_no_quote c.args.rest.text.now = c.quote_len-len.ensures ∙ ap (prefix_len is_no_quote) c.as_bytes.ensures.value in
    let inside : c.quote_len-len.result < length c.args.rest.text.now = omega (arith, len_is, prefix_within is_no_quote c.args.rest.text.now, c.if-len-rest.false) in
    quoted_found c.args.gap.now c.args.line c.args.rest.text.now c.args.rest.lines.now _ c.split_at-2.result.1 c.quote_len-len.result
    len_is inside refl refl refl c.split_at.ensures.front c.split_at-2.ensures.text c.split_at-2.ensures.lines
