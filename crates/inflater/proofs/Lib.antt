mod NameLaws
mod PlaceLaws
mod RowLaws
mod RootLaws
mod PreorderLaws
mod Left
mod Examples
