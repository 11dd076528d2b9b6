mod EachLaws
mod PartsLaws
mod DumpNames
