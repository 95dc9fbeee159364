-- The facets of an element, from the draft of its attributes.
use Rattle.std.proofs.Common.{◌≡◌, ◌∙◌, ℕ, List, Some, Result, Ok, Err, slice_get, sym, ap, subst}
use Rattle.std.specs.Result.{IsErrAnd}
use Rattle.axml_reader.specs.declared.doc.Attr.{Attr}
use Rattle.axml_reader.specs.declared.doc.Node.{Node}
use Rattle.axml_reader.specs.Document.{Document}
use Rattle.view_model.specs.Refusals.{PlainRefusal, ◌>>=◌}
use Rattle.view_model.specs.Resources.{Entries}
use Rattle.attr_table.specs.declared.draft.Draft.{Draft}
use Rattle.view_model.specs.declared.fault.Fault.{Fault}
use Rattle.view_model.specs.declared.fault.Fault.TheVariants as fault
use Rattle.attr_table.specs.declared.taking.Taken.{Taken}
use Rattle.attr_table.specs.Setting.{empty_draft}
use Rattle.attr_table.specs.Taken.{DraftsAs, IsTakenAs}
use Rattle.attr_table.specs.Taking.{attrs_of, facets_at, facets_in, facets_of, finished, with_attrs}

pub facets-start : (doc : Document) (resources : Entries) (dpi place : ℕ) (start : Node) (attrs : List Attr) (draft : Draft) → slice_get doc.nodes place ≡ Some start
    → attrs ≡ attrs_of doc start → draft ≡ empty_draft → facets_at doc resources dpi place ≡ (with_attrs doc.pool resources dpi attrs draft >>= finished)
unfolding facets_of
facets-start doc resources dpi place start attrs draft at same empty =
    ap (facets_in doc resources dpi) at
    ∙ ap (λ all. with_attrs doc.pool resources dpi all empty_draft >>= finished) (sym same)
    ∙ ap (λ first. with_attrs doc.pool resources dpi attrs first >>= finished) (sym empty)

-- the attributes were taken
pub taken-finished : (sets : Result Draft PlainRefusal) (draft : Draft) (result : Result Taken Fault) → sets ≡ Ok draft → IsTakenAs (finished draft) result
    → IsTakenAs (sets >>= finished) result
taken-finished sets draft result is taken = subst (λ made. IsTakenAs (made >>= finished) result) (sym is) taken

-- one was refused, or memory ran out
pub taken-stopped : (sets : Result Draft PlainRefusal) (now : Draft) (why : Fault) (result : Result Taken Fault) → DraftsAs sets now (Err why)
    → IsErrAnd result (λ given. given ≡ why) → IsTakenAs (sets >>= finished) result
taken-stopped sets now why (Ok taken) stopped is = absurd is
taken-stopped sets now (fault.Refused refusal) (Err given) stopped is = subst (λ why. IsTakenAs (sets >>= finished) (Err why)) (sym is) (ap (λ made. made >>= finished) stopped)
taken-stopped sets now fault.NoMemory (Err given) stopped is = subst (λ why. IsTakenAs (sets >>= finished) (Err why)) (sym is) tt
