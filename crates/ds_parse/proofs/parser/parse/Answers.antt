use Rattle.ds_parse.proofs.Parsing.{is_text, has_fault, spelled_by, only_refused, only_lexical}
use Rattle.ds_parse.proofs.parser.parse.Goals as goal

pub returns-in-Ok-clause-spelled : goal.returns-in-Ok-clause-spelled
returns-in-Ok-clause-spelled c =
    is_text c.args.text.now c.in-Ok.tokens c.module_of.result c.in-Ok.ensures.tokens c.module_of.ensures.spelled

pub returns-in-Ok-clause-only : goal.returns-in-Ok-clause-only
returns-in-Ok-clause-only c = λ m t. c.module_of.ensures.only m
    (spelled_by c.tokens_are_unique.ensures c.args.text.now c.in-Ok.tokens m c.in-Ok.ensures.tokens t)

pub returns-in-Ok-clause-refused : goal.returns-in-Ok-clause-refused
returns-in-Ok-clause-refused c =
    has_fault c.args.text.now c.in-Ok.tokens c.module_of.result c.in-Ok.ensures.tokens c.module_of.ensures.refused

pub returns-in-Ok-clause-only_fault : goal.returns-in-Ok-clause-only_fault
returns-in-Ok-clause-only_fault c = λ f h.
    c.module_of.ensures.only_fault f
    (only_refused c.tokens_are_unique.ensures c.tokens_or_fault.ensures c.args.text.now c.in-Ok.tokens f
    c.in-Ok.ensures.tokens h)

pub returns-in-Err-clause-only_fault : goal.returns-in-Err-clause-only_fault
returns-in-Err-clause-only_fault c = λ f h.
    rw c.lexical.ensures (only_lexical c.args.text.now c.in-Err.fault c.in-Err.ensures.only
    c.in-Err.ensures.only_fault f h)
