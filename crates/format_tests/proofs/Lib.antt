pub mod SampleModules
