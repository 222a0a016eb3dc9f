pub mod LineLaws
mod PrintableLaws
