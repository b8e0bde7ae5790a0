use Rattle.netlist_laws.proofs.PassedGaps.{attribute_parts, attribute_without_end, blank_parts, comment_parts, comment_without_end, directive_parts, line_comment_parts, token_begins}
use Rattle.netlist_laws.proofs.gaps.blanks_comments_attributes_and_directives_part_tokens.Goals as goal

pub returns-clause-blanks : goal.returns-clause-blanks
returns-clause-blanks c = blank_parts

pub returns-clause-line_comments : goal.returns-clause-line_comments
returns-clause-line_comments c = line_comment_parts

pub returns-clause-directives : goal.returns-clause-directives
returns-clause-directives c = directive_parts

pub returns-clause-comments : goal.returns-clause-comments
returns-clause-comments c = comment_parts

pub returns-clause-attributes : goal.returns-clause-attributes
returns-clause-attributes c = attribute_parts

pub returns-clause-no_end : goal.returns-clause-no_end
returns-clause-no_end c = comment_without_end

pub returns-clause-no_attribute_end : goal.returns-clause-no_attribute_end
returns-clause-no_attribute_end c = attribute_without_end

pub returns-clause-tokens : goal.returns-clause-tokens
returns-clause-tokens c = token_begins
